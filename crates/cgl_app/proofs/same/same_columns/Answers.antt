use Rattle.std.proofs.Common.{◌≡◌, sym, true, false}
use Rattle.cgl_app.specs.SameModel.{same_column}
use Rattle.cgl_app.proofs.SameLaws.{differs, same_so_far}
use Rattle.cgl_app.proofs.same.same_columns.Goals as goal

pub returns-then-not-same_column : goal.returns-then-not-same_column
returns-then-not-same_column c =
    sym (differs same_column c.args.a.now c.args.b.now c.loop-k.k c.index-a-k.result c.index-b-k.result c.loop-k-test.true c.loop-k.invariant.lengths
    (rw (c.index-a-k.is, c.index-b-k.is) at (sym c.if-not-same_column.ensures)))

pub loop-k-preserved : goal.loop-k-preserved
loop-k-preserved c = record {
  lengths = c.loop-k.invariant.lengths;
  same = same_so_far same_column c.args.a.now c.args.b.now c.loop-k.k c.index-a-k.result c.index-b-k.result c.loop-k-test.true c.loop-k.invariant.lengths
      c.loop-k.invariant.same (rw (c.index-a-k.is, c.index-b-k.is) at (sym c.if-not-same_column.ensures));
}

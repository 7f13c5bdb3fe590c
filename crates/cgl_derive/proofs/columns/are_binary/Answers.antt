use Rattle.std.proofs.Common.{pos, refl}
use Rattle.cgl_derive.specs.Binary.{IsBinaryAt}
use Rattle.cgl_derive.proofs.ColumnLaws.{all_more}
use Rattle.cgl_derive.proofs.columns.are_binary.Goals as goal

pub loop-term-preserved : goal.loop-term-preserved
loop-term-preserved c =
    all_more (λ t. IsBinaryAt c.args.model.now t.0) c.args.terms.now c.loop-term.term-index (0, pos 0) c.loop-term-test.true c.loop-term.invariant (c.if-not-is_binary.ensures.0 refl)

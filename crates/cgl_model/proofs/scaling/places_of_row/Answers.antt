use Rattle.std.proofs.Common.{rules, arith}
use Rattle.cgl_model.proofs.BuildLaws.{most_more, most_all}
use Rattle.cgl_model.proofs.scaling.places_of_row.Goals as goal

pub loop-entry-preserved : goal.loop-entry-preserved
loop-entry-preserved c =
    let more = most_more c.args.entries.now c.loop-entry.entry-index c.entry-item.result c.loop-entry.most _ (omega arith) c.entry-item.is c.loop-entry.invariant.most in
    let largest = c.max-most-in-loop-entry.ensures in
    record {
      most = omega (arith, more, c.places_of-in-loop-entry.ensures.value, largest);
      within = search rules;
    }

pub returns-clause-value : goal.returns-clause-value
returns-clause-value c = most_all c.args.entries.now c.args.row.now c.loop-entry.entry-index c.loop-entry.most (omega arith) c.loop-entry.invariant.most

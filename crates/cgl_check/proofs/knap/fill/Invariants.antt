use Rattle.std.proofs.Common.{drop}
use Rattle.cgl_knap.specs.Greatest.{IsTable}
use Rattle.cgl_check.proofs.KnapSumLaws.{term_values, term_weights}
use Rattle.cgl_check.proofs.knap.fill.Given as goal

abbrev pub invariant-loop-i : goal.invariant-loop-i
invariant-loop-i l = IsTable (term_weights (drop l.i l.from.terms.now)) (term_values (drop l.i l.from.terms.now) l.claim) l.table

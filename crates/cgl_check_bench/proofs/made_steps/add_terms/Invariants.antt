use Rattle.cgl_model.specs.Rising.{IsAboveAll}
use Rattle.cgl_check_bench.proofs.made_steps.add_terms.Given as goal

abbrev pub invariant-loop-column : goal.invariant-loop-column
invariant-loop-column l = IsAboveAll l.terms l.column

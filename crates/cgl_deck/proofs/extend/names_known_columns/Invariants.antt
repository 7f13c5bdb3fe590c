use Rattle.std.proofs.Common.{◌≡◌, drop, length, nat_lt}
use Rattle.std.specs.List.{list_all}
use Rattle.cgl_deck.proofs.extend.names_known_columns.Given as goal

abbrev pub invariant-loop-term : goal.invariant-loop-term
invariant-loop-term l = list_all (λ t. nat_lt t.0 (length l.model.cols)) (drop l.term-index l.cut.terms) ≡ list_all (λ t. nat_lt t.0 (length l.model.cols)) l.cut.terms

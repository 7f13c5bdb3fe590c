use Rattle.std.proofs.Common.{◌≡◌, drop}
use Rattle.cgl_deck.proofs.TermLaws.{with_terms}
use Rattle.cgl_deck.proofs.extend.add_terms.Given as goal

abbrev pub invariant-loop-term : goal.invariant-loop-term
invariant-loop-term l = with_terms l.row 0 (drop l.term-index l.cut.terms) l.columns ≡ with_terms l.row 0 l.cut.terms l.initial.columns

use Rattle.std.proofs.Common.{◌≡◌, drop}
use Rattle.std.proofs.Common.{is_some}
use Rattle.std.specs.List.{list_all}
use Rattle.cgl_num.specs.Decimal.{decimal_of}
use Rattle.cgl_deck.proofs.extend.has_decimals.Given as goal

abbrev pub invariant-loop-term : goal.invariant-loop-term
invariant-loop-term l = list_all (λ t. is_some (decimal_of t.1)) (drop l.term-index l.cut.terms) ≡ list_all (λ t. is_some (decimal_of t.1)) l.cut.terms

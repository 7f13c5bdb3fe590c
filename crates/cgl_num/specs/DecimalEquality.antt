-- When two decimals are equal: where both of their numbers are.
use Rattle.std.specs.Prelude.{Bool, ◌&&◌}
use Rattle.std.specs.Ordering.{int_eq}
use Rattle.std.specs.Cmp.{IsEquivalence}
use Rattle.std.proofs.lemmas.Cmp.{and_equiv, on_equiv, int_eq_equiv}
use Rattle.cgl_num.specs.Decimal.{Decimal}

abbrev pub decimal_eq : Decimal → Decimal → Bool
decimal_eq x y = int_eq x.m y.m && int_eq x.e y.e

pub decimal_eq_equiv : IsEquivalence decimal_eq
decimal_eq_equiv = and_equiv (on_equiv (λ d. d.m) int_eq_equiv) (on_equiv (λ d. d.e) int_eq_equiv)

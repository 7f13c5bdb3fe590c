-- A mantissa as a sign and two words.
use Rattle.std.proofs.Common.{◌≡◌, sym, subst, ℕ, ◌/◌, ◌%◌, ◌^◌, ◌<◌, Bool, cond, lit<}
use Rattle.std.specs.Prelude.{ℤ, pos}
use Rattle.std.proofs.Math.IntN.{neg_ℤ}
use Rattle.std.proofs.Math.Nat.{mod-lt}
use Rattle.std.proofs.lemmas.Nat.{shr_split}
use Rattle.cgl_num.specs.Decimal.{IsDecimal}
use Rattle.cgl_num.specs.DecimalWords.{magnitude, IsPacked}
use Rattle.cgl_num.proofs.DecimalLaws.{pair}

-- one other than 0
pub packed : (negative : Bool) (m : ℕ) (e : ℤ) → 0 < m → IsDecimal (pair (cond negative (neg_ℤ (pos m)) (pos m)) e)
    → IsPacked negative (m / 2 ^ 64) (m % 2 ^ 64) e
packed negative m e some valid =
    let whole : magnitude (m / 2 ^ 64) (m % 2 ^ 64) ≡ m = shr_split m 64 in
    record {
      decimal = subst (λ n. IsDecimal (pair (cond negative (neg_ℤ (pos n)) (pos n)) e)) (sym whole) valid;
      word = mod-lt m (lit< tt);
      sign = (λ _. subst (λ n. 0 < n) (sym whole) some);
    }

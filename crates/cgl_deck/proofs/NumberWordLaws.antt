-- The text of a number has the form of a name.
use Rattle.std.proofs.Common.{◌≡◌, refl, ◌∙◌, arith, lit<, ℕ, zero, suc, ℤ, pos, negsuc, ◌+◌, ◌-◌, ◌*◌, ◌/◌, ◌%◌, ◌^◌, ◌<◌, ◌≤◌, eqb, true, ◌||◌, List, [], ◌∷◌, ◌++◌, length, length-append, decimal, replicate}
use Rattle.std.specs.Prelude.{unsigned_abs}
use Rattle.std.specs.List.{list_all}
use Rattle.std.proofs.Math.Nat.{div-le_self, mod-le}
use Rattle.std.proofs.lemmas.Bool.{and_from, le-leb, lt-ltb, ne_eqb, not_from_false, or_from}
use Rattle.std.proofs.lemmas.Fmt.{decimal_by_steps_wide, decimal_is_IsNumeral_wide, length-decimal-le_wide}
use Rattle.std.proofs.lemmas.List.{length-replicate}
use Rattle.std.proofs.lemmas.List.Folds.{list_all-append}
use Rattle.cgl_num.specs.Decimal.{Decimal, IsDecimal, decimal_text, magnitude_text, padded, places_in, sign_text}
use Rattle.cgl_num.proofs.DecimalLaws.{few_places, whole_size}
use Rattle.cgl_model.specs.Valid.{IsName, is_name_byte}

record IsPlain (text : List ℕ) : Type 0 where
  some : 0 < length text
  bytes : list_all is_name_byte text ≡ true
  short : length text ≤ 100

-- a minus, a point or a digit
plain_byte : (b : ℕ) → 45 ≤ b → is_name_byte b ≡ true
plain_byte b le =
    let blank = or_from (eqb b 32 || eqb b 9) (eqb b 13) (or_from (eqb b 32) (eqb b 9) (ne_eqb b 32 (λ e. omega arith)) (ne_eqb b 9 (λ e. omega arith))) (ne_eqb b 13 (λ e. omega arith)) in
    not_from_false _ (or_from _ (eqb b 10) blank (ne_eqb b 10 (λ e. omega arith)))

byte_more : (b : ℕ) (text : List ℕ) → 45 ≤ b → list_all is_name_byte text ≡ true → list_all is_name_byte (b ∷ text) ≡ true
byte_more b text le h = and_from (is_name_byte b) (list_all is_name_byte text) (plain_byte b le) h

bytes_together : (a b : List ℕ) → list_all is_name_byte a ≡ true → list_all is_name_byte b ≡ true → list_all is_name_byte (a ++ b) ≡ true
bytes_together a b h k = list_all-append is_name_byte a b ∙ and_from (list_all is_name_byte a) (list_all is_name_byte b) h k

digits_plain : (n : ℕ) → n < 10 ^ 64 → list_all is_name_byte (decimal n) ≡ true
digits_plain n small =
    decimal_by_steps_wide (λ n ds. list_all is_name_byte ds ≡ true)
    (λ n lt. byte_more (48 + n) [] (omega arith) refl)
    (λ n ds le h. bytes_together ds ((48 + n % 10) ∷ []) h (byte_more (48 + n % 10) [] (omega arith) refl))
    n small

zeros_plain : (k : ℕ) → list_all is_name_byte (replicate k 48) ≡ true
zeros_plain zero = refl
zeros_plain (suc k) = byte_more 48 (replicate k 48) (omega arith) (zeros_plain k)

number_plain : (n k : ℕ) → 0 < k → k ≤ 36 → n < 10 ^ k → n < 10 ^ 64 → IsPlain (decimal n)
number_plain n k some few below small =
    record { some = (decimal_is_IsNumeral_wide n small).0.0; bytes = digits_plain n small; short = omega (arith, few, length-decimal-le_wide k n some below small) }

behind_point : (whole digits : List ℕ) → IsPlain whole → list_all is_name_byte digits ≡ true → length whole ≤ 24 → length digits ≤ 70 → IsPlain (whole ++ 46 ∷ digits)
behind_point whole digits w bytes few short =
    record {
      some = omega (arith, length-append whole (46 ∷ digits), w.some);
      bytes = bytes_together whole (46 ∷ digits) w.bytes (byte_more 46 digits (omega arith) bytes);
      short = omega (arith, length-append whole (46 ∷ digits), few, short);
    }

magnitude_plain : (m : ℕ) (e : ℤ) → m < 10 ^ 24 → places_in e ≤ 30 → ((k : ℕ) → e ≡ pos k → m * 10 ^ k < 10 ^ 36) → IsPlain (magnitude_text m e)
magnitude_plain m (pos e) small few size = number_plain (m * 10 ^ e) 36 (lit< tt) (omega arith) (size e refl) (omega (arith, size e refl))
magnitude_plain m (negsuc e) small few size =
    let whole = m / 10 ^ suc e in
    let part = m % 10 ^ suc e in
    let whole_small : whole < 10 ^ 24 = omega (arith, small, div-le_self m (10 ^ suc e)) in
    let part_small : part < 10 ^ 24 = omega (arith, small, mod-le m (10 ^ suc e)) in
    let whole_short = length-decimal-le_wide 24 whole (lit< tt) whole_small (omega (arith, whole_small)) in
    let part_short = length-decimal-le_wide 24 part (lit< tt) part_small (omega (arith, part_small)) in
    let ahead : List ℕ = replicate (suc e - length (decimal part)) 48 in
    behind_point (decimal whole) (padded (suc e) part)
    (number_plain whole 24 (lit< tt) (omega arith) whole_small (omega (arith, whole_small)))
    (bytes_together ahead (decimal part) (zeros_plain (suc e - length (decimal part))) (digits_plain part (omega (arith, part_small))))
    whole_short
    (omega (arith, few, part_short, length-append ahead (decimal part), length-replicate {A = ℕ} (suc e - length (decimal part)) 48))

name_of_plain : (text : List ℕ) → 0 < length text → list_all is_name_byte text ≡ true → length text ≤ 255 → IsName text
name_of_plain text some bytes short =
    and_from _ _ (and_from _ _ (lt-ltb 0 (length text) some) bytes) (le-leb (length text) 255 short)

signed_name : (m : ℤ) (text : List ℕ) → IsPlain text → IsName (sign_text m text)
signed_name (pos n) text h = name_of_plain text h.some h.bytes (omega (arith, h.short))
signed_name (negsuc n) text h = name_of_plain (45 ∷ text) (omega arith) (byte_more 45 text (omega arith) h.bytes) (omega (arith, h.short))

pub number_is_name : (d : Decimal) → IsDecimal d → IsName (decimal_text d)
unfolding decimal_text
number_is_name d h =
    signed_name d.m (magnitude_text (unsigned_abs d.m) d.e) (magnitude_plain (unsigned_abs d.m) d.e h.within.digits (few_places d h) (λ k e. whole_size d k h e))

-- The digits of a number as a text, with a point or none.
use Rattle.std.proofs.Common.{◌≡◌, refl, sym, ap, subst, ◌∙◌, arith, ℕ, zero, suc, ◌+◌, ◌-◌, ◌*◌, ◌/◌, ◌%◌, ◌^◌, ◌<◌, ◌≤◌, Bool, true, false, cond, not, ◌&&◌, ◌||◌, [], ◌∷◌, ◌++◌, length, decimal, replicate, drop, pow-suc, length-append, append_assoc, append-nil, eqb}
use Rattle.std.specs.Prelude.{ℤ, pos, negsuc}
use Rattle.std.specs.List.{list_all, list_any, position_or_len, before_first, after_first}
use Rattle.std.specs.Int.Signed.{lt_z}
use Rattle.std.proofs.lemmas.Fmt.{decimal_by_steps_wide, length-decimal-le_wide}
use Rattle.std.proofs.lemmas.Bool.Decides.{nat_tests}
use Rattle.std.proofs.lemmas.List.{length-replicate, take_all, drop_all, take_at, drop_at}
use Rattle.std.proofs.lemmas.List.Sums.{fold-append}
use Rattle.std.proofs.lemmas.List.Folds.{list_all-append}
use Rattle.cgl_num.specs.Decimal.{padded, sign_text}
use Rattle.cgl_num.specs.NumberText.{Word, natural, is_digit, is_point, is_exponent_letter, is_negative, unsigned, digits_in}
use Rattle.cgl_num.proofs.DecimalLaws.{not_below}
use Rattle.cgl_num.proofs.DigitLaws.{digits_from, and-left, and-right}
use Rattle.cgl_num.proofs.NumberLaws.{natural-push, all-push, digit-is, none_passes}

pub both_true : (a b : Bool) → a ≡ true → b ≡ true → (a && b) ≡ true
both_true true b a_is b_is = b_is
both_true false b a_is b_is = a_is

pub all_weaker : (p q : ℕ → Bool) → ((b : ℕ) → p b ≡ true → q b ≡ true) → (bytes : Word) → list_all p bytes ≡ true → list_all q bytes ≡ true
all_weaker p q then [] all = refl
all_weaker p q then (b ∷ bytes) all = both_true (q b) (list_all q bytes) (then b (and-left _ _ all)) (all_weaker p q then bytes (and-right _ _ all))

pub all_both : (p : ℕ → Bool) (before after : Word) → list_all p before ≡ true → list_all p after ≡ true → list_all p (before ++ after) ≡ true
all_both p before after first second = list_all-append p before after ∙ both_true (list_all p before) (list_all p after) first second

-- ---- the digits of a number

pub record IsDigitsOf (n : ℕ) (ds : Word) : Type 0 where
  pub all : list_all is_digit ds ≡ true
  pub some : 0 < length ds
  pub value : natural ds ≡ n

one_digit : (n : ℕ) → n < 10 → IsDigitsOf n ((48 + n) ∷ [])
one_digit n small = record {
  all = both_true (is_digit (48 + n)) true (digit-is n small) refl;
  some = omega arith;
  value = omega arith;
}

more_digits : (n : ℕ) (ds : Word) → 10 ≤ n → IsDigitsOf (n / 10) ds → IsDigitsOf n (ds ++ (48 + n % 10) ∷ [])
more_digits n ds large is = record {
  all = all-push ds (48 + n % 10) is.all (digit-is (n % 10) (omega arith));
  some = omega (arith, length-append ds ((48 + n % 10) ∷ []));
  value = omega (arith, natural-push ds (48 + n % 10), is.value);
}

pub decimal-digits : (n : ℕ) → n < 10 ^ 64 → IsDigitsOf n (decimal n)
decimal-digits n small = decimal_by_steps_wide IsDigitsOf one_digit more_digits n small

from_apart : (a : ℕ) (ds : Word) → digits_from a ds ≡ a * 10 ^ length ds + natural ds
from_apart a [] = omega arith
from_apart a (d ∷ ds) =
    let p = 10 ^ length ds in
    let first : digits_from (10 * a + (d - 48)) ds ≡ (10 * a + (d - 48)) * p + natural ds = from_apart (10 * a + (d - 48)) ds in
    let rest : digits_from (10 * 0 + (d - 48)) ds ≡ (10 * 0 + (d - 48)) * p + natural ds = from_apart (10 * 0 + (d - 48)) ds in
    let e : a * 10 ^ suc (length ds) ≡ a * (p * 10) = ap (λ q. a * q) (pow-suc 10 (length ds)) in
    omega (arith, first, rest, e)

pub natural-append : (before after : Word) → natural (before ++ after) ≡ natural before * 10 ^ length after + natural after
natural-append before after = fold-append (λ n d. 10 * n + (d - 48)) 0 before after ∙ from_apart (natural before) after

-- ---- zeros in front

no_value : (k : ℕ) → natural (replicate k 48) ≡ 0
no_value zero = refl
no_value (suc k) = no_value k

all_zeros : (k : ℕ) → list_all is_digit (replicate k 48) ≡ true
all_zeros zero = refl
all_zeros (suc k) = all_zeros k

pub record IsPadded (k n : ℕ) (ds : Word) : Type 0 where
  pub all : list_all is_digit ds ≡ true
  pub size : length ds ≡ k
  pub value : natural ds ≡ n

pub padded-is : (k n : ℕ) → 0 < k → n < 10 ^ k → n < 10 ^ 64 → IsPadded k n (padded k n)
padded-is k n some small fits =
    let is = decimal-digits n fits in
    let j = k - length (decimal n) in
    let nothing : natural (replicate j 48) * 10 ^ length (decimal n) ≡ 0 * 10 ^ length (decimal n) = ap (λ x. x * 10 ^ length (decimal n)) (no_value j) in
    record {
      all = all_both is_digit (replicate j 48) (decimal n) (all_zeros j) is.all;
      size = omega (arith, length-append (replicate j 48) (decimal n), length-replicate {A = ℕ} j 48, length-decimal-le_wide k n some small fits);
      value = omega (arith, natural-append (replicate j 48) (decimal n), nothing, is.value);
    }

-- ---- what follows the sign

-- n times ten to the power of -k, in digits
pub record IsBody (body : Word) (n k : ℕ) : Type 0 where
  pub mantissa : before_first is_exponent_letter body ≡ body
  pub exponent : after_first is_exponent_letter body ≡ []
  pub none : list_any is_exponent_letter body ≡ false
  pub all : list_all is_digit (digits_in body) ≡ true
  pub some : 0 < length (digits_in body)
  pub value : natural (digits_in body) ≡ n
  pub places : length (after_first is_point body) ≡ k

all_passed : (p : ℕ → Bool) (bytes : Word) → list_all (λ b. not (p b)) bytes ≡ true → position_or_len p bytes ≡ length bytes
all_passed p [] none = refl
all_passed p (b ∷ bytes) none =
    let rest : 1 + length bytes ≡ suc (length bytes) = omega arith in
    ap (λ t. cond t (1 + position_or_len p bytes) 0) (and-left _ _ none) ∙ ap (λ n. 1 + n) (all_passed p bytes (and-right _ _ none)) ∙ rest

first_place : (p : ℕ → Bool) (before : Word) (b : ℕ) (after : Word) → list_all (λ c. not (p c)) before ≡ true → p b ≡ true
    → position_or_len p (before ++ (b ∷ after)) ≡ length before
first_place p [] b after none e = ap (λ t. cond (not t) (1 + position_or_len p after) 0) e
first_place p (c ∷ before) b after none e =
    let rest : 1 + length before ≡ suc (length before) = omega arith in
    ap (λ t. cond t (1 + position_or_len p (before ++ (b ∷ after))) 0) (and-left _ _ none)
    ∙ ap (λ n. 1 + n) (first_place p before b after (and-right _ _ none) e) ∙ rest

before_none : (p : ℕ → Bool) (bytes : Word) → list_all (λ b. not (p b)) bytes ≡ true → before_first p bytes ≡ bytes
before_none p bytes none = take_all (position_or_len p bytes) bytes (omega (arith, all_passed p bytes none))

after_none : (p : ℕ → Bool) (bytes : Word) → list_all (λ b. not (p b)) bytes ≡ true → after_first p bytes ≡ []
after_none p bytes none = drop_all (position_or_len p bytes + 1) bytes (omega (arith, all_passed p bytes none))

before_one : (p : ℕ → Bool) (before : Word) (b : ℕ) (after : Word) → list_all (λ c. not (p c)) before ≡ true → p b ≡ true
    → before_first p (before ++ (b ∷ after)) ≡ before
before_one p before b after none e = take_at before (b ∷ after) (position_or_len p (before ++ (b ∷ after))) (sym (first_place p before b after none e))

after_one : (p : ℕ → Bool) (before : Word) (b : ℕ) (after : Word) → list_all (λ c. not (p c)) before ≡ true → p b ≡ true
    → after_first p (before ++ (b ∷ after)) ≡ after
after_one p before b after none e =
    let apart : before ++ (b ∷ after) ≡ (before ++ (b ∷ [])) ++ after = sym (append_assoc before (b ∷ []) after) in
    let place = first_place p before b after none e in
    let size : length (before ++ (b ∷ [])) ≡ position_or_len p (before ++ (b ∷ after)) + 1 = omega (arith, length-append before (b ∷ []), place) in
    ap (λ t. drop (position_or_len p (before ++ (b ∷ after)) + 1) t) apart
    ∙ drop_at (before ++ (b ∷ [])) after (position_or_len p (before ++ (b ∷ after)) + 1) size

abbrev pub is_plain : ℕ → Bool
is_plain b = is_digit b || is_point b

digit_plain : (b : ℕ) → is_digit b ≡ true → is_plain b ≡ true
digit_plain b e = ap (λ t. t || is_point b) e

digit_no_point : (b : ℕ) → is_digit b ≡ true → not (is_point b) ≡ true
digit_no_point b e = grind (arith, nat_tests)

plain_no_letter : (b : ℕ) → is_plain b ≡ true → not (is_exponent_letter b) ≡ true
plain_no_letter b e = grind (arith, nat_tests)

no_letter : (bytes : Word) → list_all is_plain bytes ≡ true → list_all (λ b. not (is_exponent_letter b)) bytes ≡ true
no_letter bytes all = all_weaker is_plain (λ b. not (is_exponent_letter b)) plain_no_letter bytes all

no_point : (ds : Word) → list_all is_digit ds ≡ true → list_all (λ b. not (is_point b)) ds ≡ true
no_point ds all = all_weaker is_digit (λ b. not (is_point b)) digit_no_point ds all

pub plain_digits : (ds : Word) → list_all is_digit ds ≡ true → list_all is_plain ds ≡ true
plain_digits ds all = all_weaker is_digit is_plain digit_plain ds all

pub plain_pointed : (before after : Word) → list_all is_digit before ≡ true → list_all is_digit after ≡ true → list_all is_plain (before ++ (46 ∷ after)) ≡ true
plain_pointed before after first second = all_both is_plain before (46 ∷ after) (plain_digits before first) (plain_digits after second)

-- all digits
pub whole_body : (n : ℕ) (ds : Word) → IsDigitsOf n ds → IsBody ds n 0
whole_body n ds is =
    let plain = no_letter ds (plain_digits ds is.all) in
    let last : after_first is_point ds ≡ [] = after_none is_point ds (no_point ds is.all) in
    let digits : digits_in ds ≡ ds = ap (λ t. t ++ after_first is_point ds) (before_none is_point ds (no_point ds is.all)) ∙ ap (λ t. ds ++ t) last ∙ append-nil ds in
    record {
      mantissa = before_none is_exponent_letter ds plain;
      exponent = after_none is_exponent_letter ds plain;
      none = none_passes is_exponent_letter ds (all_passed is_exponent_letter ds plain);
      all = ap (λ t. list_all is_digit t) digits ∙ is.all;
      some = subst (λ t. 0 < length t) (sym digits) is.some;
      value = ap natural digits ∙ is.value;
      places = ap length last;
    }

-- digits before and after a point
pub point_body : (q k r : ℕ) (before after : Word) → IsDigitsOf q before → IsPadded k r after → IsBody (before ++ (46 ∷ after)) (q * 10 ^ k + r) k
point_body q k r before after first second =
    let plain = no_letter (before ++ (46 ∷ after)) (plain_pointed before after first.all second.all) in
    let last : after_first is_point (before ++ (46 ∷ after)) ≡ after = after_one is_point before 46 after (no_point before first.all) refl in
    let digits : digits_in (before ++ (46 ∷ after)) ≡ before ++ after =
    ap (λ t. t ++ after_first is_point (before ++ (46 ∷ after))) (before_one is_point before 46 after (no_point before first.all) refl) ∙ ap (λ t. before ++ t) last in
    record {
      mantissa = before_none is_exponent_letter (before ++ (46 ∷ after)) plain;
      exponent = after_none is_exponent_letter (before ++ (46 ∷ after)) plain;
      none = none_passes is_exponent_letter (before ++ (46 ∷ after)) (all_passed is_exponent_letter (before ++ (46 ∷ after)) plain);
      all = ap (λ t. list_all is_digit t) digits ∙ all_both is_digit before after first.all second.all;
      some = subst (λ t. 0 < length t) (sym digits) (omega (arith, length-append before after, first.some));
      value = ap natural digits ∙ natural-append before after ∙ ap (λ x. x * 10 ^ length after + natural after) first.value
          ∙ ap (λ j. q * 10 ^ j + natural after) second.size ∙ ap (λ x. q * 10 ^ k + x) second.value;
      places = ap length last ∙ second.size;
    }

-- ---- the sign

digit_no_sign : (b : ℕ) → is_digit b ≡ true → (eqb b 43 || eqb b 45) ≡ false
digit_no_sign b e = grind (arith, nat_tests)

digit_no_minus : (b : ℕ) → is_digit b ≡ true → eqb b 45 ≡ false
digit_no_minus b e = grind (arith, nat_tests)

pub record IsSigned (text body : Word) (negative : Bool) : Type 0 where
  pub rest : unsigned text ≡ body
  pub sign : is_negative text ≡ negative

no_sign : (before after : Word) → list_all is_digit before ≡ true → 0 < length before → IsSigned (before ++ after) (before ++ after) false
no_sign [] after all some = absurd (omega (arith, some))
no_sign (b ∷ before) after all some = record {
  rest = ap (λ t. cond t (before ++ after) (b ∷ (before ++ after))) (digit_no_sign b (and-left _ _ all));
  sign = digit_no_minus b (and-left _ _ all);
}

pub sign_of : (m : ℤ) (before after : Word) → list_all is_digit before ≡ true → 0 < length before
    → IsSigned (sign_text m (before ++ after)) (before ++ after) (lt_z m (pos 0))
sign_of (pos n) before after all some =
    let is = no_sign before after all some in
    record { rest = is.rest; sign = is.sign ∙ sym (not_below n 0 (omega arith)) }
sign_of (negsuc n) before after all some = record { rest = refl; sign = refl }

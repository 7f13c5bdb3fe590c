-- Numbers without the zeros at their end.
use Rattle.std.proofs.Common.{◌≡◌, ◌≢◌, refl, sym, ap, subst, ◌∙◌, arith, ℕ, zero, suc, ◌+◌, ◌-◌, ◌*◌, ◌/◌, ◌%◌, ◌^◌, ◌<◌, ◌≤◌, Bool, true, false, cond, ◌&&◌, Some, None, List, ◌∷◌, ◌++◌, length, decimal, nat_lt, pow-suc, pow-add, ⊎_elim, inl, inr, ◌⊎◌, add-one, mul-le-mul_right, ltb, lit<}
use Rattle.std.specs.Prelude.{ℤ, pos, negsuc, unsigned_abs, ◌*ℤ◌, ◌≤ℤ◌}
use Rattle.std.proofs.Math.IntN.{neg_ℤ}
use Rattle.std.proofs.Math.Nat.{mul-div_cancel, mul-mod_left, div-eq_of_eq-mul_left, div-lt_iff_lt-mul, div-eq_of_lt}
use Rattle.std.proofs.lemmas.Fmt.{length-decimal-le_wide}
use Rattle.std.proofs.lemmas.Bool.{lt-ltb, ltb-true, cases_lt}
use Rattle.std.proofs.lemmas.Bool.Decides.{nat_tests}
use Rattle.std.specs.Int.Signed.{lt_z}
use Rattle.cgl_num.specs.Decimal.{Decimal, zeros_within, normal_of, decimal_of, zero_decimal, magnitude_text, padded, sign_text, minus, IsDecimal, times_power, decimal_text, places_in, places, scaled_by, scaled}
use Rattle.std.proofs.lemmas.Int.{ints}
use Rattle.cgl_num.specs.IntegerLaws.{*ℤ_assoc, neg-*ℤ}

pub not_below : (a b : ℕ) → b ≤ a → nat_lt a b ≡ false
not_below a b h = grind (arith, nat_tests)

pub tens_pos : (k : ℕ) → 0 < 10 ^ k
tens_pos zero = omega arith
tens_pos (suc k) = omega (arith, pow-suc 10 k, tens_pos k)

pub below_tens : (k : ℕ) → k < 10 ^ k
below_tens zero = omega arith
below_tens (suc k) = omega (arith, pow-suc 10 k, below_tens k)

pub tens_mono : (i j : ℕ) → i ≤ j → 10 ^ i ≤ 10 ^ j
tens_mono i j le =
    let n : j ≡ i + (j - i) = omega (arith, le) in
    let apart : 10 ^ j ≡ 10 ^ i * 10 ^ (j - i) = ap (λ k. 10 ^ k) n ∙ pow-add 10 i (j - i) in
    let wide : 1 * 10 ^ i ≤ 10 ^ (j - i) * 10 ^ i = mul-le-mul_right (10 ^ i) (tens_pos (j - i)) in
    omega (arith, apart, wide)

pub fewer_tens : (i j : ℕ) → 10 ^ i < 10 ^ j → i < j
fewer_tens i j h = ⊎_elim (λ less. less) (λ most. absurd (omega (arith, h, tens_mono j i most))) (cases_lt i j)

-- a number above 0 is at least 10^k where it is a multiple of it
pub multiple-large : (m k : ℕ) → 0 < m → 10 ^ k ≤ m * 10 ^ k
multiple-large m k some = let wide : 1 * 10 ^ k ≤ m * 10 ^ k = mul-le-mul_right (10 ^ k) some in omega (arith, wide)

pub one_zero_less : (m k n : ℕ) → m % 10 ≡ 0 → m * 10 ^ k ≡ n → m / 10 * 10 ^ (k + 1) ≡ n
one_zero_less m k n e is =
    let whole : m / 10 * 10 ≡ m = omega (arith, e) in
    let power : 10 ^ (k + 1) ≡ 10 ^ k * 10 = (rw add-one (pow-suc 10 k)) in
    let product : m / 10 * (10 ^ k * 10) ≡ m / 10 * 10 * 10 ^ k = omega arith in
    ap (λ p. m / 10 * p) power ∙ product ∙ ap (λ q. q * 10 ^ k) whole ∙ is

-- ---- the definition's count of zeros

no_zero-at : (r x : ℕ) → r ≢ 0 → elim r as (λ _. ℕ) [ zero ↦ x | suc q ↦ 0 ] ≡ 0
no_zero-at zero x ne = absurd (ne refl)
no_zero-at (suc r) x ne = refl

no_zero : (f n : ℕ) → n % 10 ≢ 0 → zeros_within (suc f) n ≡ 0
no_zero f n ne = no_zero-at (n % 10) (suc (zeros_within f (n / 10))) ne

one_zero : (f n : ℕ) → n % 10 ≡ 0 → zeros_within (suc f) n ≡ suc (zeros_within f (n / 10))
one_zero f n e = ap (λ r. elim r as (λ _. ℕ) [ zero ↦ suc (zeros_within f (n / 10)) | suc q ↦ 0 ]) e

pub zeros-are : (k f m : ℕ) → k < f → m % 10 ≢ 0 → zeros_within f (m * 10 ^ k) ≡ k
zeros-are k zero m lt ne = absurd (omega (arith, lt))
zeros-are zero (suc f) m lt ne =
    let same : m * 10 ^ 0 ≡ m = omega arith in
    subst (λ n. zeros_within (suc f) n ≡ 0) (sym same) (no_zero f m ne)
zeros-are (suc k) (suc f) m lt ne =
    let same : m * 10 ^ suc k ≡ m * 10 ^ k * 10 = ap (λ p. m * p) (pow-suc 10 k) ∙ (let e : m * (10 ^ k * 10) ≡ m * 10 ^ k * 10 = omega arith in e) in
    let less : m * 10 ^ k * 10 / 10 ≡ m * 10 ^ k = mul-div_cancel (m * 10 ^ k) (lit< tt) in
    subst (λ n. zeros_within (suc f) n ≡ suc k) (sym same)
    (one_zero f (m * 10 ^ k * 10) (mul-mod_left (m * 10 ^ k) 10) ∙ ap suc (ap (zeros_within f) less ∙ zeros-are k f m (omega (arith, lt)) ne))

pub not_multiple : (m : ℕ) → m % 10 ≢ 0 → 0 < m
not_multiple zero ne = absurd (ne refl)
not_multiple (suc m) ne = omega arith

-- the definition's zeros and what is left of a number above 0
pub zeros-of : (m k n : ℕ) → m % 10 ≢ 0 → m * 10 ^ k ≡ n → zeros_within n n ≡ k
zeros-of m k n ne is =
    let some : 0 < m = not_multiple m ne in
    let enough : k < n = omega (arith, below_tens k, multiple-large m k some, is) in
    subst (λ v. zeros_within n v ≡ k) is (zeros-are k n m enough ne)

pub rest-of : (m k n : ℕ) → m % 10 ≢ 0 → m * 10 ^ k ≡ n → n / 10 ^ k ≡ m
rest-of m k n ne is = div-eq_of_eq-mul_left (tens_pos k) (sym is)

abbrev pub pair : ℤ → ℤ → Decimal
pair m e = record { m = m; e = e }

pub two : (m e m' e' : ℤ) → m ≡ m' → e ≡ e' → pair m e ≡ pair m' e'
two m e m' e' p q = cc

abbrev pub with_sign : Bool → ℕ → ℕ → Decimal
with_sign negative m k = record { m = cond negative (neg_ℤ (pos m)) (pos m); e = pos k }

pub normal-is : (n : ℤ) (m k : ℕ) → m % 10 ≢ 0 → m * 10 ^ k ≡ unsigned_abs n → normal_of n ≡ with_sign (lt_z n (pos 0)) m k
normal-is (pos zero) m k ne is = absurd (omega (arith, multiple-large m k (not_multiple m ne), tens_pos k, is))
normal-is (pos (suc n)) m k ne is =
    let zeros : zeros_within (suc n) (suc n) ≡ k = zeros-of m k (suc n) ne is in
    let rest : suc n / 10 ^ zeros_within (suc n) (suc n) ≡ m = ap (λ z. suc n / 10 ^ z) zeros ∙ rest-of m k (suc n) ne is in
    let above : ltb (suc n) 0 ≡ false = not_below (suc n) 0 (omega arith) in
    two (pos (suc n / 10 ^ zeros_within (suc n) (suc n))) (pos (zeros_within (suc n) (suc n))) (pos m) (pos k) (ap pos rest) (ap pos zeros)
    ∙ ap (λ b. with_sign b m k) (sym above)
normal-is (negsuc n) m k ne is =
    let zeros : zeros_within (suc n) (suc n) ≡ k = zeros-of m k (suc n) ne is in
    let rest : suc n / 10 ^ zeros_within (suc n) (suc n) ≡ m = ap (λ z. suc n / 10 ^ z) zeros ∙ rest-of m k (suc n) ne is in
    two (neg_ℤ (pos (suc n / 10 ^ zeros_within (suc n) (suc n)))) (pos (zeros_within (suc n) (suc n))) (neg_ℤ (pos m)) (pos k) (ap (λ v. neg_ℤ (pos v)) rest) (ap pos zeros)

pub sign_keeps : (negative : Bool) (m : ℕ) → unsigned_abs (cond negative (neg_ℤ (pos m)) (pos m)) ≡ m
sign_keeps true zero = refl
sign_keeps true (suc m) = refl
sign_keeps false m = refl

both : (a b : Bool) (d : Decimal) → a ≡ true → b ≡ true → cond (a && b) (Some d) None ≡ Some d
both true true d e f = refl
both true false d e f = cc
both false b d e f = cc

not_first : (a b : Bool) (d : Decimal) → a ≡ false → cond (a && b) (Some d) None ≡ None
not_first true b d e = cc
not_first false b d e = refl

not_second : (a b : Bool) (d : Decimal) → b ≡ false → cond (a && b) (Some d) None ≡ None
not_second true b d e = ap (λ t. cond t (Some d) None) e
not_second false b d e = refl

magnitude-is : (n : ℤ) (m k : ℕ) → m % 10 ≢ 0 → m * 10 ^ k ≡ unsigned_abs n → unsigned_abs (normal_of n).m ≡ m
magnitude-is n m k ne is = ap (λ d. unsigned_abs d.m) (normal-is n m k ne is) ∙ sign_keeps (lt_z n (pos 0)) m

pub decimal-is : (n : ℤ) (m k : ℕ) → m % 10 ≢ 0 → m * 10 ^ k ≡ unsigned_abs n → m < 10 ^ 24 → unsigned_abs n < 10 ^ 36
    → decimal_of n ≡ Some (with_sign (lt_z n (pos 0)) m k)
unfolding decimal_of
decimal-is n m k ne is digits size =
    both (nat_lt (unsigned_abs (normal_of n).m) (10 ^ 24)) (nat_lt (unsigned_abs n) (10 ^ 36)) (normal_of n)
    (lt-ltb _ _ (subst (λ v. v < 10 ^ 24) (sym (magnitude-is n m k ne is)) digits)) (lt-ltb _ _ size)
    ∙ ap Some (normal-is n m k ne is)

pub too_long : (n : ℤ) (m k : ℕ) → m % 10 ≢ 0 → m * 10 ^ k ≡ unsigned_abs n → 10 ^ 24 ≤ m → decimal_of n ≡ None
unfolding decimal_of
too_long n m k ne is digits =
    not_first (nat_lt (unsigned_abs (normal_of n).m) (10 ^ 24)) (nat_lt (unsigned_abs n) (10 ^ 36)) (normal_of n)
    (not_below _ _ (subst (λ v. 10 ^ 24 ≤ v) (sym (magnitude-is n m k ne is)) digits))

pub too_large : (n : ℤ) → 10 ^ 36 ≤ unsigned_abs n → decimal_of n ≡ None
unfolding decimal_of
too_large n size = not_second (nat_lt (unsigned_abs (normal_of n).m) (10 ^ 24)) (nat_lt (unsigned_abs n) (10 ^ 36)) (normal_of n) (not_below _ _ size)

pub zero-is : decimal_of (pos 0) ≡ Some zero_decimal
unfolding decimal_of
zero-is = refl

-- ---- text

whole_part : (m k : ℕ) → m < 10 ^ 24 → k < 24 → m / 10 ^ k < 10 ^ (24 - k)
whole_part m k size few =
    let sum : 24 ≡ 24 - k + k = omega (arith, few) in
    let power : 10 ^ 24 ≡ 10 ^ (24 - k) * 10 ^ k = ap (λ n. 10 ^ n) sum ∙ pow-add 10 (24 - k) k in
    (div-lt_iff_lt-mul {x = m} {y = 10 ^ (24 - k)} (tens_pos k)).1 (omega (arith, power, size))

-- the digits before the point are few where those behind it are many
pub whole_short : (m k : ℕ) → m < 10 ^ 24 → k ≤ 30 → length (decimal (m / 10 ^ k)) + k ≤ 31
whole_short m k size few =
    ⊎_elim
    (λ less.
    let below : m / 10 ^ k < 10 ^ (24 - k) = whole_part m k size less in
    let small : 10 ^ (24 - k) ≤ 10 ^ 24 = tens_mono (24 - k) 24 (omega arith) in
    omega (arith, less, length-decimal-le_wide (24 - k) (m / 10 ^ k) (omega (arith, less)) below (omega (arith, below, small))))
    (λ most.
    let none : m / 10 ^ k ≡ 0 = div-eq_of_lt (omega (arith, size, tens_mono 24 k most)) in
    let one : length (decimal 0) ≤ 1 = length-decimal-le_wide 1 0 (lit< tt) (lit< tt) (lit< tt) in
    omega (arith, few, one, ap (λ n. length (decimal n)) none))
    (cases_lt k 24)

pub decimals_text : (m k : ℕ) → 0 < k → magnitude_text m (neg_ℤ (pos k)) ≡ decimal (m / 10 ^ k) ++ (46 ∷ padded k (m % 10 ^ k))
decimals_text m zero some = absurd (omega (arith, some))
decimals_text m (suc k) some = refl

pub sign_first : (m : ℤ) (text : List ℕ) → sign_text m text ≡ minus (lt_z m (pos 0)) ++ text
sign_first (pos n) text = ap (λ b. minus b ++ text) (sym (not_below n 0 (omega arith)))
sign_first (negsuc n) text = refl

pub magnitude_times : (m : ℤ) (n : ℕ) → unsigned_abs (m *ℤ pos n) ≡ unsigned_abs m * n
magnitude_times (pos m) n = refl
magnitude_times (negsuc m) n = sign_keeps true (suc m * n)

-- a whole number's magnitude
pub whole_size : (d : Decimal) (k : ℕ) → IsDecimal d → d.e ≡ pos k → unsigned_abs d.m * 10 ^ k < 10 ^ 36
whole_size d k is e = subst (λ v. v < 10 ^ 36) (ap (λ x. unsigned_abs (times_power d.m x)) e ∙ magnitude_times d.m (10 ^ k)) is.within.size

pub nonnegative : (e : ℤ) → lt_z e (pos 0) ≡ false → e ≡ pos (unsigned_abs e)
nonnegative (pos n) h = refl
nonnegative (negsuc n) h = cc

pub negative : (e : ℤ) → lt_z e (pos 0) ≡ true → e ≡ neg_ℤ (pos (unsigned_abs e))
negative (pos n) h = let no = not_below n 0 (omega arith) in cc
negative (negsuc n) h = refl

pub power_fits : (d : Decimal) → IsDecimal d → lt_z d.e (pos 0) ≡ false → 10 ^ unsigned_abs d.e < 2 ^ 128
power_fits d is h =
    let k = unsigned_abs d.e in
    let size = whole_size d k is (nonnegative d.e h) in
    ⊎_elim
    (λ some. let wide : 1 * 10 ^ k ≤ unsigned_abs d.m * 10 ^ k = mul-le-mul_right (10 ^ k) some in omega (arith, wide, size))
    (λ most. subst (λ e. 10 ^ unsigned_abs e < 2 ^ 128) (sym (is.normal.zero (omega (arith, ints, most)))) (lit< tt))
    (cases_lt 0 (unsigned_abs d.m))

pub whole_length : (d : Decimal) (m p at : ℕ) → IsDecimal d → lt_z d.e (pos 0) ≡ false → m ≡ unsigned_abs d.m → p ≡ 10 ^ unsigned_abs d.e → at ≤ 1
    → at + length (decimal (m * p)) ≤ 48
whole_length d m p at is h m_is p_is room =
    let size : unsigned_abs d.m * 10 ^ unsigned_abs d.e < 10 ^ 36 = whole_size d (unsigned_abs d.e) is (nonnegative d.e h) in
    let same : m * p ≡ unsigned_abs d.m * 10 ^ unsigned_abs d.e = ap (λ x. x * p) m_is ∙ ap (λ x. unsigned_abs d.m * x) p_is in
    let short : length (decimal (m * p)) ≤ 36 = length-decimal-le_wide 36 (m * p) (lit< tt) (omega (arith, size, same)) (omega (arith, size, same)) in
    omega (arith, short, room)

pub whole_digits : (d : Decimal) (m p : ℕ) (sign text : List ℕ) → lt_z d.e (pos 0) ≡ false → m ≡ unsigned_abs d.m → p ≡ 10 ^ unsigned_abs d.e
    → sign ≡ minus (lt_z d.m (pos 0)) → text ≡ sign ++ decimal (m * p) → text ≡ decimal_text d
unfolding decimal_text
whole_digits d m p sign text h m_is p_is sign_is text_is =
    text_is ∙ ap (λ s. s ++ decimal (m * p)) sign_is
    ∙ ap (λ x. minus (lt_z d.m (pos 0)) ++ decimal (x * p)) m_is ∙ ap (λ x. minus (lt_z d.m (pos 0)) ++ decimal (unsigned_abs d.m * x)) p_is
    ∙ ap (λ e. minus (lt_z d.m (pos 0)) ++ magnitude_text (unsigned_abs d.m) e) (sym (nonnegative d.e h))
    ∙ sym (sign_first d.m (magnitude_text (unsigned_abs d.m) d.e))

pub point_digits : (d : Decimal) (m k : ℕ) (sign text : List ℕ) → lt_z d.e (pos 0) ≡ true → m ≡ unsigned_abs d.m → k ≡ unsigned_abs d.e
    → sign ≡ minus (lt_z d.m (pos 0)) → text ≡ sign ++ magnitude_text m (neg_ℤ (pos k)) → text ≡ decimal_text d
unfolding decimal_text
point_digits d m k sign text h m_is k_is sign_is text_is =
    text_is ∙ ap (λ s. s ++ magnitude_text m (neg_ℤ (pos k))) sign_is
    ∙ ap (λ x. minus (lt_z d.m (pos 0)) ++ magnitude_text x (neg_ℤ (pos k))) m_is
    ∙ ap (λ e. minus (lt_z d.m (pos 0)) ++ magnitude_text (unsigned_abs d.m) e) (ap (λ x. neg_ℤ (pos x)) k_is ∙ sym (negative d.e h))
    ∙ sym (sign_first d.m (magnitude_text (unsigned_abs d.m) d.e))

-- ---- laws for callers

times_more : (m : ℤ) (a j b : ℕ) → b ≡ a + j → m *ℤ pos (10 ^ a) *ℤ pos (10 ^ j) ≡ m *ℤ pos (10 ^ b)
times_more m a j b e = *ℤ_assoc m (pos (10 ^ a)) (pos (10 ^ j)) ∙ ap (λ p. m *ℤ pos p) (sym (pow-add 10 a j) ∙ ap (λ n. 10 ^ n) (sym e))

scaled_by-more : (m e : ℤ) (k j : ℕ) → places_in e ≤ k → scaled_by k m e *ℤ pos (10 ^ j) ≡ scaled_by (k + j) m e
scaled_by-more m (pos e) k j enough = times_more m (e + k) j (e + (k + j)) (omega arith)
scaled_by-more m (negsuc e) k j enough = times_more m (k - suc e) j (k + j - suc e) (omega (arith, enough))

pub scaled-more : (d : Decimal) (k j : ℕ) → places d ≤ k → scaled k d *ℤ pos (10 ^ j) ≡ scaled (k + j) d
scaled-more d k j enough = scaled_by-more d.m d.e k j enough

few_in : (e : ℤ) → negsuc 29 ≤ℤ e → places_in e ≤ 30
few_in (pos e) h = omega arith
few_in (negsuc e) h = omega (arith, ints, h)

pub few_places : (d : Decimal) → IsDecimal d → places d ≤ 30
few_places d is = few_in d.e is.within.scale

-- a number above 0, as another without zeros at its end and a power of ten
record IsSplit (n k : ℕ) : Type 0 where
  rest : ℕ
  is : rest * 10 ^ k ≡ n
  normal : rest % 10 ≢ 0

split_at : (f n r : ℕ) → n % 10 ≡ r → 0 < n → (0 < n / 10 → IsSplit (n / 10) (zeros_within f (n / 10)))
    → IsSplit n (elim r as (λ _. ℕ) [ zero ↦ suc (zeros_within f (n / 10)) | suc q ↦ 0 ])
split_at f n zero e some later =
    let s = later (omega (arith, e, some)) in
    let z = zeros_within f (n / 10) in
    let whole : n / 10 * 10 ≡ n = omega (arith, e) in
    let product : s.rest * (10 ^ z * 10) ≡ s.rest * 10 ^ z * 10 = omega arith in
    record {
      rest = s.rest;
      is = ap (λ p. s.rest * p) (pow-suc 10 z) ∙ product ∙ ap (λ q. q * 10) s.is ∙ whole;
      normal = s.normal;
    }
split_at f n (suc r) e some later = record { rest = n; is = omega arith; normal = (λ no. cc) }

split : (f n : ℕ) → 0 < n → n < 10 ^ f → IsSplit n (zeros_within f n)
split zero n some small = absurd (omega (arith, some, small))
split (suc f) n some small = split_at f n (n % 10) refl some (λ more. split f (n / 10) more (omega (arith, small, pow-suc 10 f)))

-- what a whole number's decimal is
record IsWhole (n : ℤ) (d : Decimal) : Type 0 where
  m : ℕ
  k : ℕ
  is : m * 10 ^ k ≡ unsigned_abs n
  normal : m % 10 ≢ 0
  decimal : d ≡ with_sign (lt_z n (pos 0)) m k

normal_split : (n : ℤ) → 0 < unsigned_abs n → IsWhole n (normal_of n)
normal_split n some =
    let a = unsigned_abs n in
    let s = split a a some (below_tens a) in
    record { m = s.rest; k = zeros_within a a; is = s.is; normal = s.normal; decimal = normal-is n s.rest (zeros_within a a) s.normal s.is }

signed_value : (n : ℤ) (m p : ℕ) → m * p ≡ unsigned_abs n → cond (lt_z n (pos 0)) (neg_ℤ (pos m)) (pos m) *ℤ pos p ≡ n
signed_value (pos n) m p is = ap (λ b. cond b (neg_ℤ (pos m)) (pos m) *ℤ pos p) (not_below n 0 (omega arith)) ∙ ap pos is
signed_value (negsuc n) m p is = neg-*ℤ (pos m) (pos p) ∙ ap (λ x. neg_ℤ (pos x)) is

pub record IsGiven (a b : Bool) (d d' : Decimal) : Type 0 where
  pub first : a ≡ true
  pub second : b ≡ true
  pub same : d ≡ d'

pub if_some : (a b : Bool) (d d' : Decimal) → cond (a && b) (Some d) None ≡ Some d' → IsGiven a b d d'
if_some true true d d' e = record { first = refl; second = refl; same = cc }
if_some true false d d' e = cc
if_some false b d d' e = cc

given : (n : ℤ) (d : Decimal) → decimal_of n ≡ Some d → IsGiven (nat_lt (unsigned_abs (normal_of n).m) (10 ^ 24)) (nat_lt (unsigned_abs n) (10 ^ 36)) (normal_of n) d
unfolding decimal_of
given n d e = if_some _ _ (normal_of n) d e

kinds : (n : ℤ) → ((n ≡ pos 0) × (normal_of n ≡ zero_decimal)) ⊎ IsWhole n (normal_of n)
kinds (pos zero) = inl (refl, refl)
kinds (pos (suc n)) = inr (normal_split (pos (suc n)) (omega arith))
kinds (negsuc n) = inr (normal_split (negsuc n) (omega arith))

normal-value : (n : ℤ) → scaled 0 (normal_of n) ≡ n
normal-value n = ⊎_elim
    (λ zero. ap (λ d. scaled 0 d) zero.1 ∙ sym zero.0)
    (λ w.
    let power : w.k + 0 ≡ w.k = omega arith in
    ap (λ d. scaled 0 d) w.decimal ∙ ap (λ k. cond (lt_z n (pos 0)) (neg_ℤ (pos w.m)) (pos w.m) *ℤ pos (10 ^ k)) power
    ∙ signed_value n w.m (10 ^ w.k) w.is)
    (kinds n)

pub whole-value : (n : ℤ) (d : Decimal) → decimal_of n ≡ Some d → scaled 0 d ≡ n
whole-value n d e = ap (λ x. scaled 0 x) (sym (given n d e).same) ∙ normal-value n

pub whole-places : (n : ℤ) (d : Decimal) → decimal_of n ≡ Some d → places d ≡ 0
whole-places n d e = ap places (sym (given n d e).same) ∙ ⊎_elim (λ zero. ap places zero.1) (λ w. ap places w.decimal) (kinds n)

sign_above : (b : Bool) (m : ℕ) → 0 < m → cond b (neg_ℤ (pos m)) (pos m) ≢ pos 0
sign_above true zero some e = absurd (omega (arith, some))
sign_above true (suc m) some e = cc
sign_above false m some e = let same : m ≡ 0 = cc in absurd (omega (arith, some, same))

pub sign_valid : (b : Bool) (m : ℕ) (e : ℤ) → m % 10 ≢ 0 → m < 10 ^ 24 → negsuc 29 ≤ℤ e
    → unsigned_abs (times_power (cond b (neg_ℤ (pos m)) (pos m)) e) < 10 ^ 36 → IsDecimal (pair (cond b (neg_ℤ (pos m)) (pos m)) e)
sign_valid b m e ne digits scale size = record {
  normal = record {
    digit = (λ none. absurd (ne (ap (λ x. x % 10) (sym (sign_keeps b m)) ∙ none)));
    zero = (λ none. absurd (sign_above b m (not_multiple m ne) none));
  };
  within = record { digits = subst (λ x. x < 10 ^ 24) (sym (sign_keeps b m)) digits; scale = scale; size = size };
}

pub zero_valid : IsDecimal zero_decimal
zero_valid = record {
  normal = record { digit = (λ _. refl); zero = (λ _. refl) };
  within = record { digits = lit< tt; scale = omega (arith, ints); size = lit< tt };
}

pub whole-valid : (n : ℤ) (d : Decimal) → decimal_of n ≡ Some d → IsDecimal d
whole-valid n d e =
    let g = given n d e in
    subst (λ x. IsDecimal x) g.same
    (⊎_elim
    (λ zero. subst (λ x. IsDecimal x) (sym zero.1) zero_valid)
    (λ w.
    let b = lt_z n (pos 0) in
    let is_m : unsigned_abs (normal_of n).m ≡ w.m = magnitude-is n w.m w.k w.normal w.is in
    let digits : w.m < 10 ^ 24 = subst (λ x. x < 10 ^ 24) is_m (ltb-true _ _ g.first) in
    let sized : unsigned_abs (cond b (neg_ℤ (pos w.m)) (pos w.m) *ℤ pos (10 ^ w.k)) ≡ unsigned_abs n =
    ap unsigned_abs (signed_value n w.m (10 ^ w.k) w.is) in
    subst (λ x. IsDecimal x) (sym w.decimal)
    (sign_valid b w.m (pos w.k) w.normal digits (omega (arith, ints)) (subst (λ x. x < 10 ^ 36) (sym sized) (ltb-true _ _ g.second))))
    (kinds n))

-- the parts of a number with a sign
pub parts_valid : (b : Bool) (m : ℕ) (e : ℤ) → m % 10 ≢ 0 → m < 10 ^ 24 → negsuc 29 ≤ℤ e → ((k : ℕ) → e ≡ pos k → m * 10 ^ k < 10 ^ 36)
    → IsDecimal (pair (cond b (neg_ℤ (pos m)) (pos m)) e)
parts_valid b m (pos k) ne digits scale size =
    sign_valid b m (pos k) ne digits scale (omega (arith, size k refl, magnitude_times (cond b (neg_ℤ (pos m)) (pos m)) (10 ^ k), ap (λ x. x * 10 ^ k) (sign_keeps b m)))
parts_valid b m (negsuc k) ne digits scale size =
    sign_valid b m (negsuc k) ne digits scale (omega (arith, digits, sign_keeps b m))

-- a decimal without places is that of its value
normal_mod : (d : Decimal) (m : ℕ) → IsDecimal d → unsigned_abs d.m ≡ m → d.m ≢ pos 0 → m % 10 ≢ 0
normal_mod d m is same some none = some (is.normal.digit (ap (λ x. x % 10) same ∙ none))

sign-scaled : (m : ℤ) (p : ℕ) → 0 < p → lt_z (m *ℤ pos p) (pos 0) ≡ lt_z m (pos 0)
sign-scaled (pos m) p some = not_below (m * p) 0 (omega arith) ∙ sym (not_below m 0 (omega arith))
sign-scaled (negsuc m) zero some = absurd (omega (arith, some))
sign-scaled (negsuc m) (suc p) some = ap (λ x. lt_z (neg_ℤ (pos x)) (pos 0)) (let e : suc m * suc p ≡ suc (m * suc p + p) = omega arith in e)

pub sign-back : (m : ℤ) → cond (lt_z m (pos 0)) (neg_ℤ (pos (unsigned_abs m))) (pos (unsigned_abs m)) ≡ m
sign-back (pos m) = ap (λ b. cond b (neg_ℤ (pos m)) (pos m)) (not_below m 0 (omega arith))
sign-back (negsuc m) = refl

whole_zero : (k : ℕ) → decimal_of (pos 0 *ℤ pos k) ≡ Some zero_decimal
whole_zero k = (let e : 0 * k ≡ 0 = omega arith in ap (λ n. decimal_of (pos n)) e) ∙ zero-is

whole_at : (m e : ℤ) (k : ℕ) → IsDecimal (pair m e) → e ≡ pos k → m ≢ pos 0 → decimal_of (m *ℤ pos (10 ^ k)) ≡ Some (pair m e)
whole_at m e k is at some =
    let n = m *ℤ pos (10 ^ k) in
    let product : unsigned_abs m * 10 ^ k ≡ unsigned_abs n = sym (magnitude_times m (10 ^ k)) in
    let size : unsigned_abs n < 10 ^ 36 = omega (arith, product, whole_size (pair m e) k is at) in
    decimal-is n (unsigned_abs m) k (normal_mod (pair m e) (unsigned_abs m) is refl some) product is.within.digits size
    ∙ ap Some (two _ _ _ _ (ap (λ b. cond b (neg_ℤ (pos (unsigned_abs m))) (pos (unsigned_abs m))) (sign-scaled m (10 ^ k) (tens_pos k)) ∙ sign-back m) (sym at))

whole_places : (e : ℤ) → places_in e ≡ 0 → e ≡ pos (unsigned_abs e)
whole_places (pos k) none = refl
whole_places (negsuc k) none = absurd (omega (arith, none))

whole_by : (m e : ℤ) (k : ℕ) → IsDecimal (pair m e) → e ≡ pos k → decimal_of (m *ℤ pos (10 ^ k)) ≡ Some (pair m e)
whole_by (pos zero) e k is at = whole_zero (10 ^ k) ∙ ap Some (two _ _ _ _ refl (sym (is.normal.zero refl)))
whole_by (pos (suc m)) e k is at = whole_at (pos (suc m)) e k is at (λ none. cc)
whole_by (negsuc m) e k is at = whole_at (negsuc m) e k is at (λ none. cc)

scaled_zero : (m e : ℤ) (k : ℕ) → e ≡ pos k → scaled_by 0 m e ≡ m *ℤ pos (10 ^ k)
scaled_zero m e k at = ap (λ x. scaled_by 0 m x) at ∙ (let n : k + 0 ≡ k = omega arith in ap (λ x. m *ℤ pos (10 ^ x)) n)

pub whole-all : (d : Decimal) → IsDecimal d → places d ≡ 0 → decimal_of (scaled 0 d) ≡ Some d
whole-all d is none =
    let at = whole_places d.e none in
    ap decimal_of (scaled_zero d.m d.e (unsigned_abs d.e) at) ∙ whole_by d.m d.e (unsigned_abs d.e) is at

-- The lengths of the texts of numbers, from how many digits these have.
use Rattle.std.proofs.Common.{◌≡◌, sym, ap, ◌∙◌, arith, ℕ, zero, suc, ◌+◌, ◌-◌, ◌*◌, ◌/◌, ◌%◌, ◌^◌, ◌<◌, ◌≤◌, max, true, false, [], ◌∷◌, ◌++◌, length, length-append, replicate, decimal, pow-suc, ⊎_elim, lit<}
use Rattle.std.specs.Prelude.{ℤ, pos, negsuc, ◌≤ℤ◌, unsigned_abs}
use Rattle.std.proofs.Math.Nat.{div-div-eq-div-mul, mod-lt, mul-div_cancel}
use Rattle.std.proofs.lemmas.Int.{ints}
use Rattle.std.proofs.lemmas.List.{length-replicate}
use Rattle.std.proofs.lemmas.Fmt.{decimal_digit, decimal_is_IsNumeral_wide, decimal_step_wide, length-decimal-le_wide}
use Rattle.std.proofs.lemmas.Bool.{cases_lt}
use Rattle.std.specs.Int.Signed.{lt_z}
use Rattle.cgl_num.specs.Decimal.{Decimal, IsDecimal, decimal_text, magnitude_text, minus, padded}
use Rattle.cgl_num.proofs.DecimalLaws.{decimals_text, multiple-large, negative, nonnegative, not_below, sign_first, tens_mono, tens_pos, whole_size}

one_more : (n : ℕ) → 10 ≤ n → n < 10 ^ 64 → length (decimal n) ≡ length (decimal (n / 10)) + 1
one_more n some small = ap length (decimal_step_wide n some small) ∙ length-append (decimal (n / 10)) ((48 + n % 10) ∷ [])

one_digit : (n : ℕ) → n < 10 → length (decimal n) ≡ 1
one_digit n small = ap length (decimal_digit n small)

some_digit : (n : ℕ) → n < 10 ^ 64 → 1 ≤ length (decimal n)
some_digit n small = (decimal_is_IsNumeral_wide n small).0.0

at_least : (k n : ℕ) → 10 ^ k ≤ n → n < 10 ^ 64 → k + 1 ≤ length (decimal n)
at_least zero n from small = some_digit n small
at_least (suc k) n from small =
    let power = pow-suc 10 k in
    let rest : 10 ^ k ≤ n / 10 = omega (arith, from, power) in
    omega (arith, at_least k (n / 10) rest (omega (arith, small)), one_more n (omega (arith, from, power, tens_pos k)) small)

-- the count of digits, by the greatest power of ten that is not above the number
pub count_is : (k n : ℕ) → 10 ^ k ≤ n → n < 10 * 10 ^ k → n < 10 ^ 64 → length (decimal n) ≡ k + 1
count_is k n from below small =
    omega (arith, at_least k n from small, length-decimal-le_wide (suc k) n (omega arith) (omega (arith, below, pow-suc 10 k)) small)

pub zero_count : length (decimal 0) ≡ 1
zero_count = one_digit 0 (lit< tt)

-- zeros behind a number
times_length : (k m : ℕ) → (0 < k → 0 < m) → m * 10 ^ k < 10 ^ 64 → length (decimal (m * 10 ^ k)) ≡ length (decimal m) + k
times_length zero m some small = ap (λ n. length (decimal n)) (let e : m * 10 ^ 0 ≡ m = omega arith in e) ∙ (let e : length (decimal m) ≡ length (decimal m) + 0 = omega arith in e)
times_length (suc k) m some small =
    let n = m * 10 ^ k in
    let above : 0 < m = some (omega arith) in
    let same : m * 10 ^ suc k ≡ n * 10 = ap (λ p. m * p) (pow-suc 10 k) ∙ (let e : m * (10 ^ k * 10) ≡ m * 10 ^ k * 10 = omega arith in e) in
    let least : 1 ≤ n = omega (arith, multiple-large m k above, tens_pos k) in
    let wide : n * 10 < 10 ^ 64 = omega (arith, small, same) in
    ap (λ x. length (decimal x)) same ∙ one_more (n * 10) (omega (arith, least)) wide
    ∙ ap (λ x. length (decimal x) + 1) (mul-div_cancel n (lit< tt))
    ∙ ap (λ x. x + 1) (times_length k m (λ _. above) (omega (arith, wide))) ∙ (let e : length (decimal m) + k + 1 ≡ length (decimal m) + suc k = omega arith in e)

-- the digits before the last k
front_length : (k m : ℕ) → m < 10 ^ 64 → length (decimal (m / 10 ^ k)) + k ≡ max (length (decimal m)) (k + 1)
front_length zero m small =
    let same : m / 10 ^ 0 ≡ m = omega arith in
    omega (arith, ap (λ x. length (decimal x)) same, some_digit m small)
front_length (suc k) m small =
    let apart : m / 10 ^ suc k ≡ m / 10 / 10 ^ k = ap (λ p. m / p) (pow-suc 10 k ∙ (let e : 10 ^ k * 10 ≡ 10 * 10 ^ k = omega arith in e)) ∙ sym (div-div-eq-div-mul m 10 (10 ^ k)) in
    let rest : length (decimal (m / 10 ^ suc k)) ≡ length (decimal (m / 10 / 10 ^ k)) = ap (λ x. length (decimal x)) apart in
    let before = front_length k (m / 10) (omega (arith, small)) in
    ⊎_elim
    (λ few. omega (arith, rest, before, one_digit m few, one_digit (m / 10) (omega (arith, few))))
    (λ many. omega (arith, rest, before, one_more m many small))
    (cases_lt m 10)

padded_length : (k n : ℕ) → 0 < k → k ≤ 30 → n < 10 ^ k → length (padded k n) ≡ k
padded_length k n some few small =
    let short = length-decimal-le_wide k n some small (omega (arith, small, tens_mono k 30 few)) in
    length-append (replicate (k - length (decimal n)) 48) (decimal n)
    ∙ ap (λ x. x + length (decimal n)) (length-replicate (k - length (decimal n)) 48) ∙ omega (arith, short)

-- ---- decimals

with_minus : (d : Decimal) (n : ℕ) → length (magnitude_text (unsigned_abs d.m) d.e) ≡ n → length (decimal_text d) ≡ length (minus (lt_z d.m (pos 0))) + n
unfolding decimal_text
with_minus d n is =
    ap length (sign_first d.m (magnitude_text (unsigned_abs d.m) d.e)) ∙ length-append (minus (lt_z d.m (pos 0))) (magnitude_text (unsigned_abs d.m) d.e)
    ∙ ap (λ x. length (minus (lt_z d.m (pos 0))) + x) is

zero_whole : (m : ℤ) → unsigned_abs m ≡ 0 → m ≡ pos 0
zero_whole (pos m) none = ap pos none
zero_whole (negsuc m) none = absurd (omega (arith, none))

scaled_above : (d : Decimal) → IsDecimal d → 0 < unsigned_abs d.e → 0 < unsigned_abs d.m
scaled_above d is scaled = ⊎_elim (λ some. some)
    (λ none. let e : unsigned_abs d.e ≡ 0 = ap unsigned_abs (is.normal.zero (zero_whole d.m (omega (arith, none)))) in absurd (omega (arith, scaled, e)))
    (cases_lt 0 (unsigned_abs d.m))

pub whole_text : (d : Decimal) (count : ℕ) → IsDecimal d → lt_z d.e (pos 0) ≡ false → count ≡ length (decimal (unsigned_abs d.m))
    → length (decimal_text d) ≡ length (minus (lt_z d.m (pos 0))) + (count + unsigned_abs d.e)
whole_text d count is h counted =
    let m = unsigned_abs d.m in
    let k = unsigned_abs d.e in
    let at = nonnegative d.e h in
    let size = whole_size d k is at in
    with_minus d (count + k)
    (ap (λ e. length (magnitude_text m e)) at ∙ times_length k m (scaled_above d is) (omega (arith, size)) ∙ ap (λ x. x + k) (sym counted))

some_places : (e : ℤ) → lt_z e (pos 0) ≡ true → 0 < unsigned_abs e
some_places (pos n) h = let none = not_below n 0 (omega arith) in cc
some_places (negsuc n) h = omega arith

few_places : (e : ℤ) → negsuc 29 ≤ℤ e → lt_z e (pos 0) ≡ true → unsigned_abs e ≤ 30
few_places (pos n) h below = let none = not_below n 0 (omega arith) in cc
few_places (negsuc n) h below = omega (arith, ints, h)

pub point_text : (d : Decimal) (count : ℕ) → IsDecimal d → lt_z d.e (pos 0) ≡ true → count ≡ length (decimal (unsigned_abs d.m))
    → length (decimal_text d) ≡ length (minus (lt_z d.m (pos 0))) + (max count (unsigned_abs d.e + 1) + 1)
point_text d count is h counted =
    let m = unsigned_abs d.m in
    let k = unsigned_abs d.e in
    let some = some_places d.e h in
    let few = few_places d.e is.within.scale h in
    let front = decimal (m / 10 ^ k) in
    let behind = padded k (m % 10 ^ k) in
    let digits : m < 10 ^ 24 = is.within.digits in
    let front_is : length front + k ≡ max count (k + 1) = front_length k m (omega (arith, digits)) ∙ ap (λ x. max x (k + 1)) (sym counted) in
    let behind_is : length behind ≡ k = padded_length k (m % 10 ^ k) some few (mod-lt m (tens_pos k)) in
    let parts : length (front ++ (46 ∷ behind)) ≡ length front + (length behind + 1) = length-append front (46 ∷ behind) ∙ (let e : length front + suc (length behind) ≡ length front + (length behind + 1) = omega arith in e) in
    with_minus d (max count (k + 1) + 1)
    (ap (λ e. length (magnitude_text m e)) (negative d.e h) ∙ ap length (decimals_text m k some) ∙ omega (arith, parts, front_is, behind_is))

-- The text of a decimal is read back as the decimal.
use Rattle.std.proofs.Common.{◌≡◌, ◌≢◌, refl, sym, ap, subst, ◌∙◌, arith, ℕ, zero, suc, ◌+◌, ◌-◌, ◌*◌, ◌/◌, ◌%◌, ◌^◌, ◌<◌, ◌≤◌, Bool, true, false, cond, not, ◌||◌, Some, [], ◌∷◌, ◌++◌, length, decimal, nat_lt, eqb, pow-add, length-append, append-nil, lit<, lit≤, ◌↔◌}
use Rattle.std.specs.Prelude.{ℤ, pos, negsuc, unsigned_abs, ◌+ℤ◌, ◌-ℤ◌, ◌≤ℤ◌}
use Rattle.std.proofs.Math.IntN.{neg_ℤ}
use Rattle.std.proofs.Math.Nat.{mod-lt, div-le_self, div-add-mod', lt_of_mul-lt-mul_right}
use Rattle.std.specs.Int.Signed.{lt_z}
use Rattle.std.specs.List.{list_all, list_any, after_first, before_first}
use Rattle.std.proofs.lemmas.Int.{ints}
use Rattle.std.proofs.lemmas.Bool.{lt-ltb}
use Rattle.std.proofs.lemmas.Bool.Decides.{nat_tests}
use Rattle.std.proofs.lemmas.Fmt.{length-decimal-le_wide}
use Rattle.cgl_num.specs.Decimal.{Decimal, IsDecimal, decimal_text, magnitude_text, padded, sign_text, scaled, scaled_by}
use Rattle.cgl_num.specs.NumberText.{Word, natural, is_digit, is_digits, is_exponent_letter, is_point, is_negative, unsigned, digits, digits_in, decimals, mantissa, exponent, scale, signed, zeros, is_number, number, limit, reaches, value_of}
use Rattle.cgl_num.specs.declared.number_text.Limit.TheVariants.{Finite}
use Rattle.cgl_num.proofs.DecimalLaws.{tens_pos, tens_mono, zeros-of, rest-of, not_multiple, multiple-large, pair, two, magnitude_times, whole_size, whole_short, few_places, sign-back}
use Rattle.cgl_num.proofs.DigitTextLaws.{both_true, all_weaker, IsDigitsOf, decimal-digits, IsPadded, padded-is, is_plain, plain_digits, plain_pointed, IsBody, whole_body, point_body, IsSigned, sign_of}
use Rattle.cgl_num.proofs.NumberLawsRange.{most_z}
use Rattle.cgl_num.proofs.NumberLawsValue.{few, fine, gives, number-if, rest, value_some, value_none, times_under, bound_finite}
use Rattle.cgl_num.proofs.NumberLawsValid.{trimmed, reach-value}

-- ---- a text by its digits

-- n times ten to the power of -k, with a sign
record IsText (text : Word) (negative : Bool) (n k : ℕ) : Type 0 where
  sign : is_negative text ≡ negative
  form : is_number text ≡ true
  all : list_all is_digit (digits text) ≡ true
  value : natural (digits text) ≡ n
  scale : scale text ≡ pos 0 -ℤ pos k

text-is : (text body : Word) (negative : Bool) (n k : ℕ) → IsSigned text body negative → IsBody body n k → IsText text negative n k
text-is text body negative n k s is =
    let mantissa_is : mantissa text ≡ body = ap (λ t. before_first is_exponent_letter t) s.rest ∙ is.mantissa in
    let exponent_is : exponent text ≡ [] = ap (λ t. after_first is_exponent_letter t) s.rest ∙ is.exponent in
    let digits_is : digits text ≡ digits_in body = ap digits_in mantissa_is in
    let places_is : length (decimals text) ≡ k = ap (λ t. length (after_first is_point t)) mantissa_is ∙ is.places in
    let no_letter : list_any is_exponent_letter (unsigned text) ≡ false = ap (λ t. list_any is_exponent_letter t) s.rest ∙ is.none in
    let digits_form : is_digits (digits text) ≡ true =
    ap is_digits digits_is ∙ both_true (nat_lt 0 (length (digits_in body))) (list_all is_digit (digits_in body)) (lt-ltb 0 (length (digits_in body)) is.some) is.all in
    record {
      sign = s.sign;
      form = both_true (is_digits (digits text)) (not (list_any is_exponent_letter (unsigned text)) || is_digits (unsigned (exponent text))) digits_form
          (ap (λ t. not t || is_digits (unsigned (exponent text))) no_letter);
      all = ap (λ t. list_all is_digit t) digits_is ∙ is.all;
      value = ap natural digits_is ∙ is.value;
      scale = ap (λ t. signed t (natural (unsigned t)) -ℤ pos (length (decimals text))) exponent_is ∙ ap (λ j. pos 0 -ℤ pos j) places_is;
    }

no_reach : (b : Bool) (P : Type 0) → (b ≡ true) ↔ P → (P → b ≡ false) → b ≡ false
no_reach true P both none = none (both.0 refl)
no_reach false P both none = refl

below_reach : (text : Word) (negative : Bool) (n k t : ℕ) → IsText text negative n k → n < 10 ^ (t + k) → reaches t text ≡ false
below_reach text negative n k t is small =
    let at : scale text +ℤ pos k ≡ pos 0 = ap (λ x. x +ℤ pos k) is.scale ∙ (let e : pos 0 -ℤ pos k +ℤ pos k ≡ pos 0 = omega (arith, ints) in e) in
    no_reach (reaches t text) (10 ^ (t + k) ≤ natural (digits text) * 10 ^ 0) (reach-value text t k 0 is.form at)
    (λ large. absurd (omega (arith, large, small, is.value)))

-- ---- the value of the text

value-is : (text : Word) (m e : ℤ) (z k : ℕ) → unsigned_abs m % 10 ≢ 0 → IsText text (lt_z m (pos 0)) (unsigned_abs m * 10 ^ z) k
    → e ≡ pos 0 -ℤ pos k +ℤ pos z → value_of text ≡ pair m e
value-is text m e z k normal is power =
    let a = unsigned_abs m in
    let n = natural (digits text) in
    let product : a * 10 ^ z ≡ n = sym is.value in
    let some : 0 < n = omega (arith, multiple-large a z (not_multiple a normal), tens_pos z, product) in
    let cut = trimmed (digits text) is.all in
    let zeros_are : zeros text ≡ z = sym (zeros-of cut.left (zeros text) n (cut.normal some) cut.is) ∙ zeros-of a z n normal product in
    let rest_is : rest text ≡ a = ap (λ j. n / 10 ^ j) zeros_are ∙ rest-of a z n normal product in
    let m_is : signed text (rest text) ≡ m =
    ap (λ x. signed text x) rest_is ∙ ap (λ b. cond b (neg_ℤ (pos a)) (pos a)) is.sign ∙ sign-back m in
    let e_is : scale text +ℤ pos (zeros text) ≡ e =
    ap (λ x. x +ℤ pos (zeros text)) is.scale ∙ ap (λ j. pos 0 -ℤ pos k +ℤ pos j) zeros_are ∙ sym power in
    value_some text some ∙ two _ _ _ _ m_is e_is

read-value : (text : Word) (d : Decimal) (negative : Bool) (n k : ℕ) → IsDecimal d → IsText text negative n k → n < 10 ^ (36 + k) → value_of text ≡ d → number text ≡ Some d
read-value text d negative n k valid is small same =
    number-if text ∙ gives (is_number text) (few text) (fine text) (reaches 36 text) (value_of text) is.form
    (ap (λ x. nat_lt (unsigned_abs x.m) (10 ^ 24)) same ∙ lt-ltb _ _ valid.within.digits)
    (most_z (negsuc 29) (value_of text).e (subst (λ x. negsuc 29 ≤ℤ x.e) (sym same) valid.within.scale))
    (below_reach text negative n k 36 is small)
    ∙ ap Some same

zero_value : (text : Word) (m e : ℤ) (negative : Bool) (z k : ℕ) → IsDecimal (pair m e) → m ≡ pos 0 → IsText text negative (unsigned_abs m * 10 ^ z) k → value_of text ≡ pair m e
zero_value text m e negative z k valid none is =
    let nothing : unsigned_abs m * 10 ^ z ≡ 0 = ap (λ x. unsigned_abs x * 10 ^ z) none ∙ (let q : 0 * 10 ^ z ≡ 0 = omega arith in q) in
    value_none text (is.value ∙ nothing) ∙ two _ _ _ _ (sym none) (sym (valid.normal.zero none))

value-of : (text : Word) (m e : ℤ) (z k : ℕ) → IsDecimal (pair m e) → IsText text (lt_z m (pos 0)) (unsigned_abs m * 10 ^ z) k
    → e ≡ pos 0 -ℤ pos k +ℤ pos z → value_of text ≡ pair m e
value-of text (pos zero) e z k valid is power = zero_value text (pos 0) e _ z k valid refl is
value-of text (pos (suc m)) e z k valid is power =
    value-is text (pos (suc m)) e z k (λ none. let q : pos (suc m) ≡ pos 0 = valid.normal.digit none in cc) is power
value-of text (negsuc m) e z k valid is power =
    value-is text (negsuc m) e z k (λ none. let q : negsuc m ≡ pos 0 = valid.normal.digit none in cc) is power

-- ---- the text of a decimal

record IsTextOf (text : Word) (m e : ℤ) : Type 0 where
  z : ℕ
  k : ℕ
  is : IsText text (lt_z m (pos 0)) (unsigned_abs m * 10 ^ z) k
  power : e ≡ pos 0 -ℤ pos k +ℤ pos z
  small : unsigned_abs m * 10 ^ z < 10 ^ (36 + k)

fits : (n k t : ℕ) → n < 10 ^ k → k ≤ t → n < 10 ^ t
fits n k t small le = omega (arith, small, tens_mono k t le)

whole_text : (m : ℤ) (e : ℕ) → IsDecimal (pair m (pos e)) → IsTextOf (sign_text m (decimal (unsigned_abs m * 10 ^ e))) m (pos e)
whole_text m e valid =
    let n = unsigned_abs m * 10 ^ e in
    let small : n < 10 ^ 36 = whole_size (pair m (pos e)) e valid refl in
    let ds = decimal-digits n (fits n 36 64 small (lit≤ tt)) in
    let is : IsSigned (sign_text m (decimal n)) (decimal n) (lt_z m (pos 0)) =
    subst (λ t. IsSigned (sign_text m t) t (lt_z m (pos 0))) (append-nil (decimal n)) (sign_of m (decimal n) [] ds.all ds.some) in
    record {
      z = e;
      k = 0;
      is = text-is (sign_text m (decimal n)) (decimal n) (lt_z m (pos 0)) n 0 is (whole_body n (decimal n) ds);
      power = omega (arith, ints);
      small = small;
    }

-- the digits before and after the point
record IsParted (a k : ℕ) : Type 0 where
  whole : IsDigitsOf (a / 10 ^ k) (decimal (a / 10 ^ k))
  rest : IsPadded k (a % 10 ^ k) (padded k (a % 10 ^ k))

parted : (a k : ℕ) → 0 < k → a < 10 ^ 24 → IsParted a k
parted a k some small =
    let less : a % 10 ^ k < 10 ^ k = mod-lt a (tens_pos k) in
    let fewer : a % 10 ^ k < 10 ^ 24 = omega (arith, small, div-add-mod' a (10 ^ k)) in
    let below : a / 10 ^ k < 10 ^ 24 = omega (arith, small, div-le_self a (10 ^ k)) in
    record {
      whole = decimal-digits (a / 10 ^ k) (fits (a / 10 ^ k) 24 64 below (lit≤ tt));
      rest = padded-is k (a % 10 ^ k) some less (fits (a % 10 ^ k) 24 64 fewer (lit≤ tt));
    }

point_text : (m : ℤ) (e : ℕ) → IsDecimal (pair m (negsuc e))
    → IsTextOf (sign_text m (decimal (unsigned_abs m / 10 ^ suc e) ++ (46 ∷ padded (suc e) (unsigned_abs m % 10 ^ suc e)))) m (negsuc e)
point_text m e valid =
    let a = unsigned_abs m in
    let k = suc e in
    let q = a / 10 ^ k in
    let r = a % 10 ^ k in
    let is = parted a k (omega arith) valid.within.digits in
    let whole : q * 10 ^ k + r ≡ a * 10 ^ 0 = omega (arith, div-add-mod' a (10 ^ k)) in
    let text = sign_text m (decimal q ++ (46 ∷ padded k r)) in
    record {
      z = 0;
      k = k;
      is = subst (λ n. IsText text (lt_z m (pos 0)) n k) whole
          (text-is text (decimal q ++ (46 ∷ padded k r)) (lt_z m (pos 0)) (q * 10 ^ k + r) k (sign_of m (decimal q) (46 ∷ padded k r) is.whole.all is.whole.some)
          (point_body q k r (decimal q) (padded k r) is.whole is.rest));
      power = omega (arith, ints);
      small = fits (a * 10 ^ 0) 24 (36 + k) (omega (arith, valid.within.digits)) (omega arith);
    }

text_of : (m e : ℤ) → IsDecimal (pair m e) → IsTextOf (sign_text m (magnitude_text (unsigned_abs m) e)) m e
text_of m (pos e) valid = whole_text m e valid
text_of m (negsuc e) valid = point_text m e valid

read_back : (text : Word) (m e : ℤ) → IsDecimal (pair m e) → IsTextOf text m e → number text ≡ Some (pair m e)
read_back text m e valid t =
    read-value text (pair m e) (lt_z m (pos 0)) (unsigned_abs m * 10 ^ t.z) t.k valid t.is t.small (value-of text m e t.z t.k valid t.is t.power)

pub number-of-text : (d : Decimal) → IsDecimal d → number (decimal_text d) ≡ Some d
unfolding decimal_text
number-of-text d valid = read_back (sign_text d.m (magnitude_text (unsigned_abs d.m) d.e)) d.m d.e valid (text_of d.m d.e valid)

-- ---- as a bound

fewer_places : (v t j : ℕ) → v * 10 ^ j < 10 ^ (t + j) → v < 10 ^ t
fewer_places v t j small = lt_of_mul-lt-mul_right (10 ^ j) (omega (arith, small, pow-add 10 t j))

power_apart : (a i j : ℕ) → a * 10 ^ (i + j) ≡ a * 10 ^ i * 10 ^ j
power_apart a i j = ap (λ p. a * p) (pow-add 10 i j) ∙ (let e : a * (10 ^ i * 10 ^ j) ≡ a * 10 ^ i * 10 ^ j = omega arith in e)

below_bound : (m e : ℤ) (z k : ℕ) → negsuc 29 ≤ℤ e → e ≡ pos 0 -ℤ pos k +ℤ pos z → unsigned_abs (scaled_by 30 m e) < 10 ^ 50 → unsigned_abs m * 10 ^ z < 10 ^ (20 + k)
below_bound m (pos e) z k low power small =
    let a = unsigned_abs m in
    let apart : a * 10 ^ (e + 30) ≡ a * 10 ^ e * 10 ^ 30 = power_apart a e 30 in
    let less : a * 10 ^ e < 10 ^ 20 = fewer_places (a * 10 ^ e) 20 30 (omega (arith, small, magnitude_times m (10 ^ (e + 30)), apart)) in
    let sum : z ≡ e + k = omega (arith, ints, power) in
    let same : a * 10 ^ z ≡ a * 10 ^ e * 10 ^ k = ap (λ j. a * 10 ^ j) sum ∙ power_apart a e k in
    omega (arith, same, times_under (a * 10 ^ e) 20 k (20 + k) less (omega arith))
below_bound m (negsuc e) z k low power small =
    let a = unsigned_abs m in
    let few_places : suc e ≤ 30 = omega (arith, ints, low) in
    let sum : 20 + suc e + (30 - suc e) ≡ 50 = omega (arith, few_places) in
    let same : 10 ^ (20 + suc e + (30 - suc e)) ≡ 10 ^ 50 = ap (λ j. 10 ^ j) sum in
    let less : a < 10 ^ (20 + suc e) = fewer_places a (20 + suc e) (30 - suc e) (omega (arith, small, magnitude_times m (10 ^ (30 - suc e)), same)) in
    times_under a (20 + suc e) z (20 + k) less (omega (arith, ints, power))

bound_back : (text : Word) (m e : ℤ) → IsDecimal (pair m e) → IsTextOf text m e → unsigned_abs (scaled_by 30 m e) < 10 ^ 50 → limit text ≡ Some (Finite (pair m e))
bound_back text m e valid t small =
    bound_finite text (pair m e) t.is.form
    (below_reach text (lt_z m (pos 0)) (unsigned_abs m * 10 ^ t.z) t.k 20 t.is (below_bound m e t.z t.k valid.within.scale t.power small))
    (read_back text m e valid t)

pub bound-of-text : (d : Decimal) → IsDecimal d → unsigned_abs (scaled 30 d) < 10 ^ 50 → limit (decimal_text d) ≡ Some (Finite d)
unfolding decimal_text
bound-of-text d valid small = bound_back (sign_text d.m (magnitude_text (unsigned_abs d.m) d.e)) d.m d.e valid (text_of d.m d.e valid) small

-- ---- the bytes

record IsMagnitude (text : Word) : Type 0 where
  plain : list_all is_plain text ≡ true
  some : 0 < length text
  short : length text ≤ 47

whole_magnitude : (m : ℤ) (e : ℕ) → IsDecimal (pair m (pos e)) → IsMagnitude (decimal (unsigned_abs m * 10 ^ e))
whole_magnitude m e valid =
    let n = unsigned_abs m * 10 ^ e in
    let small : n < 10 ^ 36 = whole_size (pair m (pos e)) e valid refl in
    let wide : n < 10 ^ 64 = fits n 36 64 small (lit≤ tt) in
    let ds = decimal-digits n wide in
    record { plain = plain_digits (decimal n) ds.all; some = ds.some; short = omega (arith, length-decimal-le_wide 36 n (lit< tt) small wide) }

point_magnitude : (m : ℤ) (e : ℕ) → IsDecimal (pair m (negsuc e))
    → IsMagnitude (decimal (unsigned_abs m / 10 ^ suc e) ++ (46 ∷ padded (suc e) (unsigned_abs m % 10 ^ suc e)))
point_magnitude m e valid =
    let k = suc e in
    let before = decimal (unsigned_abs m / 10 ^ k) in
    let after = padded k (unsigned_abs m % 10 ^ k) in
    let is = parted (unsigned_abs m) k (omega arith) valid.within.digits in
    let size : length (before ++ (46 ∷ after)) ≡ length before + suc k = length-append before (46 ∷ after) ∙ ap (λ n. length before + suc n) is.rest.size in
    record {
      plain = plain_pointed before after is.whole.all is.rest.all;
      some = omega (arith, size);
      short = omega (arith, size, whole_short (unsigned_abs m) k valid.within.digits (few_places (pair m (negsuc e)) valid));
    }

magnitude_of : (m e : ℤ) → IsDecimal (pair m e) → IsMagnitude (magnitude_text (unsigned_abs m) e)
magnitude_of m (pos e) valid = whole_magnitude m e valid
magnitude_of m (negsuc e) valid = point_magnitude m e valid

abbrev pub is_of_number : ℕ → Bool
is_of_number b = is_digit b || (eqb b 45 || eqb b 46)

plain_of_number : (b : ℕ) → is_plain b ≡ true → is_of_number b ≡ true
plain_of_number b e = grind (arith, nat_tests)

record IsShort (text : Word) : Type 0 where
  bytes : list_all is_of_number text ≡ true
  some : 0 < length text
  short : length text ≤ 48

short_text : (m : ℤ) (text : Word) → IsMagnitude text → IsShort (sign_text m text)
short_text (pos n) text is = record { bytes = all_weaker is_plain is_of_number plain_of_number text is.plain; some = is.some; short = omega (arith, is.short) }
short_text (negsuc n) text is = record { bytes = all_weaker is_plain is_of_number plain_of_number text is.plain; some = omega arith; short = omega (arith, is.short) }

short_of : (d : Decimal) → IsDecimal d → IsShort (decimal_text d)
unfolding decimal_text
short_of d valid = short_text d.m (magnitude_text (unsigned_abs d.m) d.e) (magnitude_of d.m d.e valid)

pub bytes-of-text : (d : Decimal) → IsDecimal d → list_all is_of_number (decimal_text d) ≡ true
bytes-of-text d valid = (short_of d valid).bytes

pub some-of-text : (d : Decimal) → IsDecimal d → 0 < length (decimal_text d)
some-of-text d valid = (short_of d valid).some

pub length-of-text : (d : Decimal) → IsDecimal d → length (decimal_text d) ≤ 48
length-of-text d valid = (short_of d valid).short

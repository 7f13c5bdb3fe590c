-- The value of a number within the limits is a decimal.
use Rattle.std.proofs.Common.{◌≡◌, ◌≢◌, refl, sym, ap, subst, ◌∙◌, arith, ℕ, suc, ◌+◌, ◌-◌, ◌*◌, ◌%◌, ◌^◌, ◌<◌, ◌≤◌, Bool, true, false, cond, ◌&&◌, [], ◌∷◌, ◌++◌, reverse, length, Some, None, nat_lt, pow-suc, pow-add, ⊎_elim, ◌↔◌}
use Rattle.std.specs.Prelude.{ℤ, pos, negsuc, unsigned_abs, int_lt, int_le, ◌+ℤ◌, ◌*ℤ◌, ◌≤ℤ◌}
use Rattle.std.proofs.Math.IntN.{neg_ℤ}
use Rattle.std.specs.List.{list_all, prefix_len, suffix_len}
use Rattle.std.proofs.lemmas.Int.{ints}
use Rattle.cgl_num.specs.IntegerLaws.{neg-*ℤ}
use Rattle.std.proofs.lemmas.Bool.{lt-ltb, ltb-true, cases_lt}
use Rattle.std.proofs.lemmas.List.{reverse-append, reverse-reverse}
use Rattle.std.proofs.Math.Nat.{div-eq_of_eq-mul_left, lt_of_mul-lt-mul_right}
use Rattle.cgl_num.specs.declared.number_text.Limit.TheVariants.{Finite, Plus, Minus}
use Rattle.cgl_num.specs.Decimal.{Decimal, IsDecimal, zero_decimal, places, places_in, scaled, scaled_by}
use Rattle.cgl_num.specs.NumberText.{Word, natural, is_digit, is_zero, is_negative, digits, scale, zeros, signed, size, value_of, reaches, is_in_range, is_number, number, limit}
use Rattle.cgl_num.proofs.DecimalLaws.{tens_pos, fewer_tens, not_below, sign_keeps, zero_valid, parts_valid, not_multiple, multiple-large, magnitude_times}
use Rattle.cgl_num.proofs.DigitLaws.{size-is, size-above, size-below, IsOfSize, and-left, and-right, zero-is as zero_digit, nonzero-is, digit-small}
use Rattle.cgl_num.proofs.NumberLaws.{natural-push, all-push}
use Rattle.cgl_num.proofs.NumberLawsRange.{from_less, from_not_less}
use Rattle.cgl_num.proofs.NumberLawsValue.{few, fine, given_if, number-if, rest, value_some, value_none, magnitude_some, times_under}

-- a number without the zeros at its end
pub record IsTrimmed (n z : ℕ) : Type 0 where
  pub left : ℕ
  pub is : left * 10 ^ z ≡ n
  pub normal : 0 < n → left % 10 ≢ 0

last : (rs : Word) (d : ℕ) → reverse (d ∷ rs) ≡ reverse rs ++ d ∷ []
last rs d = reverse-append (d ∷ []) rs

all-reverse : (ds : Word) → list_all is_digit ds ≡ true → list_all is_digit (reverse ds) ≡ true
all-reverse [] all = refl
all-reverse (d ∷ ds) all =
    ap (λ w. list_all is_digit w) (last ds d) ∙ all-push (reverse ds) d (all-reverse ds (and-right _ _ all)) (and-left _ _ all)

trim_at : (rs : Word) (d : ℕ) (t : Bool) → is_digit d ≡ true → is_zero d ≡ t → IsTrimmed (natural (reverse rs)) (prefix_len is_zero rs)
    → IsTrimmed (10 * natural (reverse rs) + (d - 48)) (cond t (1 + prefix_len is_zero rs) 0)
trim_at rs d true digit e later =
    let z = prefix_len is_zero rs in
    let none : d - 48 ≡ 0 = zero_digit d e in
    let one : 1 + z ≡ suc z = omega arith in
    let power : 10 ^ (1 + z) ≡ 10 ^ z * 10 = ap (λ k. 10 ^ k) one ∙ pow-suc 10 z in
    let same : later.left * 10 ^ (1 + z) ≡ later.left * (10 ^ z * 10) = ap (λ p. later.left * p) power in
    record {
      left = later.left;
      is = omega (arith, same, later.is, none);
      normal = (λ some. later.normal (omega (arith, some, none)));
    }
trim_at rs d false digit e later =
    let small = digit-small d digit in
    let some = nonzero-is d digit e in
    record {
      left = 10 * natural (reverse rs) + (d - 48);
      is = omega arith;
      normal = (λ _ none. omega (arith, small, some, none));
    }

trim : (rs : Word) → list_all is_digit rs ≡ true → IsTrimmed (natural (reverse rs)) (prefix_len is_zero rs)
trim [] all = record { left = 0; is = omega arith; normal = (λ some. absurd (omega (arith, some))) }
trim (d ∷ rs) all =
    let more : natural (reverse (d ∷ rs)) ≡ 10 * natural (reverse rs) + (d - 48) = ap natural (last rs d) ∙ natural-push (reverse rs) d in
    subst (λ n. IsTrimmed n (prefix_len is_zero (d ∷ rs))) (sym more)
    (trim_at rs d (is_zero d) (and-left _ _ all) refl (trim rs (and-right _ _ all)))

pub trimmed : (ds : Word) → list_all is_digit ds ≡ true → IsTrimmed (natural ds) (suffix_len is_zero ds)
trimmed ds all = subst (λ w. IsTrimmed (natural w) (suffix_len is_zero ds)) (reverse-reverse ds) (trim (reverse ds) (all-reverse ds all))

-- ---- what a number above 0 within the limits is

-- the number without the zeros at its end and the power of ten, of one that does not reach 10^t
record IsValue (text : Word) (t : ℕ) : Type 0 where
  n : ℕ
  below : rest text < 10 ^ n
  normal : rest text % 10 ≢ 0
  reach : (pos n +ℤ (scale text +ℤ pos (zeros text))) ≤ℤ pos t

reach_plain : (s z t : ℕ) (q : ℤ) → z < s → (pos s +ℤ q) ≤ℤ pos t → (pos (s - z) +ℤ (q +ℤ pos z)) ≤ℤ pos t
reach_plain s z t q less reach = omega (arith, ints, less, reach)

second_false : (a b : Bool) → a ≡ true → (a && b) ≡ false → b ≡ false
second_false true b a_is none = none
second_false false b a_is none = cc

cut_below : (v z s n : ℕ) → v * 10 ^ z ≡ n → n < 10 ^ s → z < s → v < 10 ^ (s - z)
cut_below v z s n is small less =
    let sum : s ≡ s - z + z = omega (arith, less) in
    let apart : 10 ^ s ≡ 10 ^ (s - z) * 10 ^ z = ap (λ k. 10 ^ k) sum ∙ pow-add 10 (s - z) z in
    lt_of_mul-lt-mul_right (10 ^ z) (omega (arith, is, small, apart))

value_is : (text : Word) (t : ℕ) → list_all is_digit (digits text) ≡ true → 0 < natural (digits text) → reaches t text ≡ false → IsValue text t
value_is text t all some low =
    let z = zeros text in
    let s = size (digits text) in
    let n = natural (digits text) in
    let cut = trimmed (digits text) all in
    let normal = cut.normal some in
    let same : rest text ≡ cut.left = div-eq_of_eq-mul_left (tens_pos z) (sym cut.is) in
    let sized = size-is (digits text) all some in
    let small : n < 10 ^ s = omega (arith, sized.high) in
    let large : 10 ^ z ≤ n = omega (arith, multiple-large cut.left z (not_multiple cut.left normal), cut.is) in
    let less : z < s = fewer_tens z s (omega (arith, large, small)) in
    let reach = from_not_less (pos t) (pos s +ℤ scale text) (second_false (nat_lt 0 n) (int_lt (pos t) (pos s +ℤ scale text)) (lt-ltb 0 n some) low) in
    record {
      n = s - z;
      below = subst (λ v. v < 10 ^ (s - z)) (sym same) (cut_below cut.left z s n cut.is small less);
      normal = subst (λ v. v % 10 ≢ 0) (sym same) normal;
      reach = reach_plain s z t (scale text) less reach;
    }

from_most : (a b : ℤ) → int_le a b ≡ true → a ≤ℤ b
from_most a b h = grind (arith, ints)

whole_part : (n k : ℕ) (e : ℤ) → (pos n +ℤ e) ≤ℤ pos 36 → e ≡ pos k → n + k ≤ 36
whole_part n k e reach is = omega (arith, ints, reach, is)

record IsAllGiven (n a b c : Bool) (v d : Decimal) : Type 0 where
  form : n ≡ true
  few : a ≡ true
  fine : b ≡ true
  low : c ≡ false
  same : v ≡ d

all_given : (n a b c : Bool) (v d : Decimal) → given_if n a b c v ≡ Some d → IsAllGiven n a b c v d
all_given true true true false v d e = record { form = refl; few = refl; fine = refl; low = refl; same = cc }
all_given true true true true v d e = cc
all_given true true false c v d e = cc
all_given true false b c v d e = cc
all_given false a b c v d e = cc

number_digits : (text : Word) → is_number text ≡ true → list_all is_digit (digits text) ≡ true
number_digits text is = and-right (nat_lt 0 (length (digits text))) _ (and-left _ _ is)

none_above : (n : ℕ) → n ≤ 0 → n ≡ 0
none_above n h = omega (arith, h)

above_valid : (text : Word) → is_number text ≡ true → few text ≡ true → fine text ≡ true → reaches 36 text ≡ false → 0 < natural (digits text)
    → IsDecimal (value_of text)
above_valid text form few_is fine_is low some =
    let value = value_is text 36 (number_digits text form) some low in
    let e = scale text +ℤ pos (zeros text) in
    let digits_is : rest text < 10 ^ 24 = subst (λ v. v < 10 ^ 24) (magnitude_some text some) (ltb-true _ _ few_is) in
    let scale_is : negsuc 29 ≤ℤ e = subst (λ d. negsuc 29 ≤ℤ d.e) (value_some text some) (from_most (negsuc 29) (value_of text).e fine_is) in
    subst (λ d. IsDecimal d) (sym (value_some text some))
    (parts_valid (is_negative text) (rest text) e value.normal digits_is scale_is
    (λ k at. times_under (rest text) value.n k 36 value.below (whole_part value.n k e value.reach at)))

pub number-valid : (text : Word) (d : Decimal) → number text ≡ Some d → IsDecimal d
number-valid text d e =
    let g = all_given (is_number text) (few text) (fine text) (reaches 36 text) (value_of text) d (sym (number-if text) ∙ e) in
    subst (λ x. IsDecimal x) g.same
    (⊎_elim (λ some. above_valid text g.form g.few g.fine g.low some)
    (λ none. subst (λ x. IsDecimal x) (sym (value_none text (none_above _ none))) zero_valid)
    (cases_lt 0 (natural (digits text))))

-- ---- bounds

record IsFiniteBound (n h r : Bool) (v d : Decimal) : Type 0 where
  form : n ≡ true
  low : h ≡ false
  inside : r ≡ true
  same : v ≡ d

finite_bound : (n h r s : Bool) (v d : Decimal) → cond n (cond h (Some (cond s Minus Plus)) (cond r (Some (Finite v)) None)) None ≡ Some (Finite d)
    → IsFiniteBound n h r v d
finite_bound true false true s v d e = record { form = refl; low = refl; inside = refl; same = cc }
finite_bound true false false s v d e = cc
finite_bound true true r true v d e = cc
finite_bound true true r false v d e = cc
finite_bound false h r s v d e = cc

finite_of : (text : Word) (d : Decimal) → limit text ≡ Some (Finite d)
    → IsFiniteBound (is_number text) (reaches 20 text) (is_in_range text) (value_of text) d
finite_of text d e = finite_bound (is_number text) (reaches 20 text) (is_in_range text) (is_negative text) (value_of text) d e

both_given : (n r : Bool) (v d : Decimal) → n ≡ true → r ≡ true → v ≡ d → cond (n && r) (Some v) None ≡ Some d
both_given true true v d n_is r_is same = ap Some same
both_given true false v d n_is r_is same = cc
both_given false r v d n_is r_is same = cc

pub bound-number : (text : Word) (d : Decimal) → limit text ≡ Some (Finite d) → number text ≡ Some d
bound-number text d e =
    let f = finite_of text d e in
    both_given (is_number text) (is_in_range text) (value_of text) d f.form f.inside f.same

pub bound-valid : (text : Word) (d : Decimal) → limit text ≡ Some (Finite d) → IsDecimal d
bound-valid text d e = number-valid text d (bound-number text d e)

small_at : (b : Bool) (m n k t : ℕ) (e : ℤ) → m < 10 ^ n → (pos n +ℤ e) ≤ℤ pos t → places_in e ≤ k
    → unsigned_abs (scaled_by k (cond b (neg_ℤ (pos m)) (pos m)) e) < 10 ^ (t + k)
small_at b m n k t (pos e) below reach enough =
    let room : n + (e + k) ≤ t + k = omega (arith, ints, reach) in
    let same : unsigned_abs (cond b (neg_ℤ (pos m)) (pos m) *ℤ pos (10 ^ (e + k))) ≡ m * 10 ^ (e + k) =
    magnitude_times (cond b (neg_ℤ (pos m)) (pos m)) (10 ^ (e + k)) ∙ ap (λ x. x * 10 ^ (e + k)) (sign_keeps b m) in
    subst (λ x. x < 10 ^ (t + k)) (sym same) (times_under m n (e + k) (t + k) below room)
small_at b m n k t (negsuc e) below reach enough =
    let room : n + (k - suc e) ≤ t + k = omega (arith, ints, reach, enough) in
    let same : unsigned_abs (cond b (neg_ℤ (pos m)) (pos m) *ℤ pos (10 ^ (k - suc e))) ≡ m * 10 ^ (k - suc e) =
    magnitude_times (cond b (neg_ℤ (pos m)) (pos m)) (10 ^ (k - suc e)) ∙ ap (λ x. x * 10 ^ (k - suc e)) (sign_keeps b m) in
    subst (λ x. x < 10 ^ (t + k)) (sym same) (times_under m n (k - suc e) (t + k) below room)

zero_small : (k t : ℕ) → unsigned_abs (scaled k zero_decimal) < 10 ^ t
zero_small k t = omega (arith, tens_pos t)

above_small : (text : Word) (k : ℕ) → is_number text ≡ true → reaches 20 text ≡ false → 0 < natural (digits text) → places (value_of text) ≤ k
    → unsigned_abs (scaled k (value_of text)) < 10 ^ (20 + k)
above_small text k form low some enough =
    let value = value_is text 20 (number_digits text form) some low in
    let is = value_some text some in
    subst (λ d. unsigned_abs (scaled k d) < 10 ^ (20 + k)) (sym is)
    (small_at (is_negative text) (rest text) value.n k 20 (scale text +ℤ pos (zeros text)) value.below value.reach (subst (λ d. places d ≤ k) is enough))

pub bound-small : (text : Word) (d : Decimal) (k : ℕ) → limit text ≡ Some (Finite d) → places d ≤ k → unsigned_abs (scaled k d) < 10 ^ (20 + k)
bound-small text d k e enough =
    let f = finite_of text d e in
    subst (λ x. unsigned_abs (scaled k x) < 10 ^ (20 + k)) f.same
    (⊎_elim (λ some. above_small text k f.form f.low some (subst (λ x. places x ≤ k) (sym f.same) enough))
    (λ none. subst (λ x. unsigned_abs (scaled k x) < 10 ^ (20 + k)) (sym (value_none text (none_above _ none))) (zero_small k (20 + k)))
    (cases_lt 0 (natural (digits text))))

-- ---- the value in the digits' words

power_at : (m e : ℤ) (k i : ℕ) → e +ℤ pos k ≡ pos i → scaled_by k m e ≡ m *ℤ pos (10 ^ i)
power_at m (pos e) k i at = let same : e + k ≡ i = omega (arith, ints, at) in ap (λ n. m *ℤ pos (10 ^ n)) same
power_at m (negsuc e) k i at = let same : k - suc e ≡ i = omega (arith, ints, at) in ap (λ n. m *ℤ pos (10 ^ n)) same

signed_times : (b : Bool) (v p : ℕ) → cond b (neg_ℤ (pos v)) (pos v) *ℤ pos p ≡ cond b (neg_ℤ (pos (v * p))) (pos (v * p))
signed_times true v p = neg-*ℤ (pos v) (pos p)
signed_times false v p = refl

value_plain : (b : Bool) (left z n k j : ℕ) (q : ℤ) → left * 10 ^ z ≡ n → q +ℤ pos k ≡ pos j
    → scaled_by k (cond b (neg_ℤ (pos left)) (pos left)) (q +ℤ pos z) ≡ cond b (neg_ℤ (pos n)) (pos n) *ℤ pos (10 ^ j)
value_plain b left z n k j q is at =
    let sum : q +ℤ pos z +ℤ pos k ≡ pos (z + j) = omega (arith, ints, at) in
    let apart : 10 ^ (z + j) ≡ 10 ^ z * 10 ^ j = pow-add 10 z j in
    let product : left * (10 ^ z * 10 ^ j) ≡ left * 10 ^ z * 10 ^ j = omega arith in
    let same : left * 10 ^ (z + j) ≡ n * 10 ^ j = ap (λ p. left * p) apart ∙ product ∙ ap (λ x. x * 10 ^ j) is in
    power_at (cond b (neg_ℤ (pos left)) (pos left)) (q +ℤ pos z) k (z + j) sum ∙ signed_times b left (10 ^ (z + j))
    ∙ ap (λ x. cond b (neg_ℤ (pos x)) (pos x)) same ∙ sym (signed_times b n (10 ^ j))

no_value : (b : Bool) (n k p : ℕ) → n ≡ 0 → cond b (neg_ℤ (pos n)) (pos n) *ℤ pos p ≡ scaled k zero_decimal
no_value b n k p none =
    let left : n * p ≡ 0 = (let e : 0 * p ≡ 0 = omega arith in ap (λ x. x * p) none ∙ e) in
    let right : 0 * 10 ^ (0 + k) ≡ 0 = omega arith in
    signed_times b n p ∙ ap (λ x. cond b (neg_ℤ (pos x)) (pos x)) left ∙ unsigned_zero b ∙ ap pos (sym right)
  where
    unsigned_zero : (b : Bool) → cond b (neg_ℤ (pos 0)) (pos 0) ≡ pos 0
    unsigned_zero true = refl
    unsigned_zero false = refl

pub number-value : (text : Word) (d : Decimal) (k j : ℕ) → number text ≡ Some d → scale text +ℤ pos k ≡ pos j
    → scaled k d ≡ signed text (natural (digits text)) *ℤ pos (10 ^ j)
number-value text d k j e at =
    let g = all_given (is_number text) (few text) (fine text) (reaches 36 text) (value_of text) d (sym (number-if text) ∙ e) in
    let cut = trimmed (digits text) (number_digits text g.form) in
    let same : rest text ≡ cut.left = div-eq_of_eq-mul_left (tens_pos (zeros text)) (sym cut.is) in
    ap (λ x. scaled k x) (sym g.same)
    ∙ ⊎_elim (λ some. ap (λ x. scaled k x) (value_some text some)
    ∙ value_plain (is_negative text) (rest text) (zeros text) (natural (digits text)) k j (scale text) (ap (λ v. v * 10 ^ zeros text) same ∙ cut.is) at)
    (λ few.
    let none = none_above (natural (digits text)) few in
    ap (λ x. scaled k x) (value_none text none) ∙ sym (no_value (is_negative text) (natural (digits text)) k (10 ^ j) none))
    (cases_lt 0 (natural (digits text)))

reach_at : (s n t k j : ℕ) (q : ℤ) → IsOfSize s n → 0 < n → q +ℤ pos k ≡ pos j → (b : Bool) → int_lt (pos t) (pos s +ℤ q) ≡ b
    → (b ≡ true) ↔ (10 ^ (t + k) ≤ n * 10 ^ j)
reach_at s n t k j q sized some at true reach =
    let some_size : 0 < s = fewer_tens 0 s (omega (arith, sized.high, some)) in
    let more = from_less (pos t) (pos s +ℤ q) reach in
    let above : t + k < s + j = omega (arith, ints, more, at) in
    ((λ _. size-above s n (t + k) j sized above some_size), (λ _. refl))
reach_at s n t k j q sized some at false reach =
    let most = from_not_less (pos t) (pos s +ℤ q) reach in
    let below : s + j ≤ t + k = omega (arith, ints, most, at) in
    ((λ no_way. cc), (λ large. absurd (omega (arith, large, size-below s n (t + k) j sized below))))

second : (a b : Bool) (P : Type 0) → a ≡ true → (b ≡ true) ↔ P → ((a && b) ≡ true) ↔ P
second true b P a_is both = both
second false b P a_is both = cc

neither : (a b : Bool) (p n q : ℕ) → a ≡ false → 0 < p → n ≡ 0 → ((a && b) ≡ true) ↔ (p ≤ n * q)
neither true b p n q a_is some none = cc
neither false b p n q a_is some none =
    let zero_product : n * q ≡ 0 = (let e : 0 * q ≡ 0 = omega arith in ap (λ x. x * q) none ∙ e) in
    ((λ no_way. cc), (λ large. absurd (omega (arith, large, some, zero_product))))

pub reach-value : (text : Word) (t k j : ℕ) → is_number text ≡ true → scale text +ℤ pos k ≡ pos j
    → (reaches t text ≡ true) ↔ (10 ^ (t + k) ≤ natural (digits text) * 10 ^ j)
reach-value text t k j is at =
    let n = natural (digits text) in
    let s = size (digits text) in
    ⊎_elim (λ some. second (nat_lt 0 n) (int_lt (pos t) (pos s +ℤ scale text)) (10 ^ (t + k) ≤ n * 10 ^ j) (lt-ltb 0 n some)
    (reach_at s n t k j (scale text) (size-is (digits text) (number_digits text is) some) some at (int_lt (pos t) (pos s +ℤ scale text)) refl))
    (λ few. neither (nat_lt 0 n) (int_lt (pos t) (pos s +ℤ scale text)) (10 ^ (t + k)) n (10 ^ j) (not_below 0 n few) (tens_pos (t + k)) (none_above n few))
    (cases_lt 0 n)

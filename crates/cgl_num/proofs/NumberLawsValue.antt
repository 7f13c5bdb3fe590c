-- A number's value by its parts.
use Rattle.std.proofs.Common.{◌≡◌, refl, sym, ap, subst, ◌∙◌, arith, ℕ, suc, ◌+◌, ◌-◌, ◌*◌, ◌/◌, ◌^◌, ◌<◌, ◌≤◌, Bool, true, false, cond, not, ◌&&◌, if◌then◌else◌, Option, Some, None, nat_lt, eqb, lit≤, pow-add, mul-le-mul_right}
use Rattle.std.specs.Prelude.{ℤ, pos, negsuc, unsigned_abs, int_lt, int_le, ◌+ℤ◌, ◌≤ℤ◌, ◌<ℤ◌}
use Rattle.std.proofs.Math.IntN.{neg_ℤ}
use Rattle.std.proofs.lemmas.Int.{ints}
use Rattle.std.proofs.lemmas.Bool.{lt-ltb}
use Rattle.std.proofs.lemmas.Bool.Decides.{nat_tests}
use Rattle.std.proofs.Math.Nat.{div-eq_of_eq-mul_left, le-div_iff_mul-le}
use Rattle.cgl_num.specs.Decimal.{Decimal, zero_decimal}
use Rattle.cgl_num.specs.NumberText.{Word, natural, is_negative, digits, scale, zeros, signed, value_of, reaches, is_in_range, is_number, number, limit, IsForm}
use Rattle.cgl_num.specs.declared.number_text.Limit.{Limit}
use Rattle.cgl_num.specs.declared.number_text.Limit.TheVariants.{Finite, Plus, Minus}
use Rattle.cgl_num.proofs.DecimalLaws.{tens_pos, tens_mono, not_below, sign_keeps, pair, two}
use Rattle.cgl_num.proofs.DigitLaws.{size-is}
use Rattle.cgl_num.proofs.NumberLawsRange.{reach-is, above_none, is_none, read-is, same_near, fine_near, less_z, not_less_z, most_z, not_most_z, at_scale}

abbrev pub given_if : Bool → Bool → Bool → Bool → Decimal → Option Decimal
given_if n a b c d = if n && (a && b && not c) then Some d else None

pub gives : (n a b c : Bool) (d : Decimal) → n ≡ true → a ≡ true → b ≡ true → c ≡ false → given_if n a b c d ≡ Some d
gives true true true false d n_is a_is b_is c_is = refl
gives true true true true d n_is a_is b_is c_is = cc
gives true true false c d n_is a_is b_is c_is = cc
gives true false b c d n_is a_is b_is c_is = cc
gives false a b c d n_is a_is b_is c_is = cc

no_first : (n a b c : Bool) (d : Decimal) → a ≡ false → given_if n a b c d ≡ None
no_first true true b c d e = cc
no_first true false b c d e = refl
no_first false a b c d e = refl

no_second : (n a b c : Bool) (d : Decimal) → b ≡ false → given_if n a b c d ≡ None
no_second true true true c d e = cc
no_second true true false c d e = refl
no_second true false b c d e = refl
no_second false a b c d e = refl

no_third : (n a b c : Bool) (d : Decimal) → c ≡ true → given_if n a b c d ≡ None
no_third true true true true d e = refl
no_third true true true false d e = cc
no_third true true false c d e = refl
no_third true false b c d e = refl
no_third false a b c d e = refl

abbrev pub few : Word → Bool
few text = nat_lt (unsigned_abs (value_of text).m) (10 ^ 24)

abbrev pub fine : Word → Bool
fine text = int_le (neg_ℤ (pos 30)) (value_of text).e

pub number-if : (text : Word) → number text ≡ given_if (is_number text) (few text) (fine text) (reaches 36 text) (value_of text)
number-if text = refl

not_zero : (n : ℕ) → 0 < n → eqb n 0 ≡ false
not_zero n h = grind (arith, nat_tests)

is_zero_test : (n : ℕ) → n ≡ 0 → eqb n 0 ≡ true
is_zero_test n h = grind (arith, nat_tests)

abbrev pub rest : Word → ℕ
rest text = natural (digits text) / 10 ^ zeros text

abbrev pub above_value : Word → Decimal
above_value text = pair (signed text (rest text)) (scale text +ℤ pos (zeros text))

pub value_some : (text : Word) → 0 < natural (digits text) → value_of text ≡ above_value text
value_some text some = ap (λ t. cond t zero_decimal (above_value text)) (not_zero (natural (digits text)) some)

pub value_none : (text : Word) → natural (digits text) ≡ 0 → value_of text ≡ zero_decimal
value_none text none = ap (λ t. cond t zero_decimal (above_value text)) (is_zero_test (natural (digits text)) none)

pub magnitude_some : (text : Word) → 0 < natural (digits text) → unsigned_abs (value_of text).m ≡ rest text
magnitude_some text some = ap (λ d. unsigned_abs d.m) (value_some text some) ∙ sign_keeps (is_negative text) (rest text)

pub number_zero : (text : Word) (negative : Bool) (v z s : ℕ) (p : ℤ) → IsForm text negative v z s p → s ≡ 0 → number text ≡ Some zero_decimal
number_zero text negative v z s p is none =
    let value = value_none text (is_none text negative v z s p is none) in
    let low : reaches 36 text ≡ false = reach-is 36 text negative v z s p is (lit≤ tt) ∙ ap (λ t. t && int_lt (pos 36) (p +ℤ pos s)) (not_below 0 s (omega (arith, none))) in
    number-if text ∙ gives (is_number text) (few text) (fine text) (reaches 36 text) (value_of text) is.number
    (ap (λ d. nat_lt (unsigned_abs d.m) (10 ^ 24)) value) (ap (λ d. int_le (negsuc 29) d.e) value) low
    ∙ ap Some value

pub number_long : (text : Word) (negative : Bool) (v z s : ℕ) (p : ℤ) → IsForm text negative v z s p → 0 < s → z < s → 24 < s - z → number text ≡ None
number_long text negative v z s p is some less long =
    let above = above_none text negative v z s p is some in
    let n = natural (digits text) in
    let sized = size-is (digits text) is.counted.all above in
    let low : 10 ^ (s - 1) ≤ n = subst (λ k. 10 ^ (k - 1) ≤ n) (sym is.counted.size) sized.low in
    let up : 10 ^ (24 + z) ≤ 10 ^ (s - 1) = tens_mono (24 + z) (s - 1) (omega (arith, less, long)) in
    let apart : 10 ^ (24 + z) ≡ 10 ^ 24 * 10 ^ z = pow-add 10 24 z in
    let at_least : 10 ^ 24 ≤ n / 10 ^ z = (le-div_iff_mul-le {x = 10 ^ 24} {y = n} (tens_pos z)).1 (omega (arith, low, up, apart)) in
    let wide : 10 ^ 24 ≤ rest text = subst (λ k. 10 ^ 24 ≤ n / 10 ^ k) is.counted.zeros at_least in
    number-if text ∙ no_first (is_number text) (few text) (fine text) (reaches 36 text) (value_of text)
    (not_below _ _ (subst (λ x. 10 ^ 24 ≤ x) (sym (magnitude_some text above)) wide))

pub number_large : (text : Word) (negative : Bool) (v z s : ℕ) (p : ℤ) → IsForm text negative v z s p → 0 < s → pos 36 <ℤ (p +ℤ pos s) → number text ≡ None
number_large text negative v z s p is some large =
    let high : reaches 36 text ≡ true = reach-is 36 text negative v z s p is (lit≤ tt)
    ∙ ap (λ t. t && int_lt (pos 36) (p +ℤ pos s)) (lt-ltb 0 s some) ∙ less_z (pos 36) (p +ℤ pos s) large in
    number-if text ∙ no_third (is_number text) (few text) (fine text) (reaches 36 text) (value_of text) high

fine-is : (text : Word) (negative : Bool) (v z s : ℕ) (p : ℤ) → IsForm text negative v z s p → 0 < s → fine text ≡ int_le (negsuc 29) (p +ℤ pos z)
fine-is text negative v z s p is some =
    let r = read-is text negative v z s p is in
    ap (λ d. int_le (negsuc 29) d.e) (value_some text (above_none text negative v z s p is some))
    ∙ ap (λ k. int_le (negsuc 29) (scale text +ℤ pos k)) (sym is.counted.zeros)
    ∙ ap (λ x. int_le (negsuc 29) (x +ℤ pos z)) r.scale ∙ fine_near z r.far r.less r.negative r.zeros_is r.less_is
    ∙ ap (λ x. int_le (negsuc 29) (x +ℤ pos z)) (sym r.near)

pub number_small : (text : Word) (negative : Bool) (v z s : ℕ) (p : ℤ) → IsForm text negative v z s p → 0 < s → (p +ℤ pos z) <ℤ negsuc 29 → number text ≡ None
number_small text negative v z s p is some small =
    number-if text ∙ no_second (is_number text) (few text) (fine text) (reaches 36 text) (value_of text)
    (fine-is text negative v z s p is some ∙ not_most_z (negsuc 29) (p +ℤ pos z) small)

pub number_some : (text : Word) (negative : Bool) (v z s : ℕ) (p : ℤ) → IsForm text negative v z s p → 0 < s → s ≤ z + 24 → v < 10 ^ 24
    → (p +ℤ pos s) ≤ℤ pos 36 → negsuc 29 ≤ℤ (p +ℤ pos z) → number text ≡ Some (pair (cond negative (neg_ℤ (pos v)) (pos v)) (p +ℤ pos z))
number_some text negative v z s p is some short digits_is size_is fine_is =
    let r = read-is text negative v z s p is in
    let above = above_none text negative v z s p is some in
    let low : reaches 36 text ≡ false = reach-is 36 text negative v z s p is (lit≤ tt)
    ∙ ap (λ t. t && int_lt (pos 36) (p +ℤ pos s)) (lt-ltb 0 s some) ∙ not_less_z (pos 36) (p +ℤ pos s) size_is in
    let rest_is : rest text ≡ v =
    ap (λ k. natural (digits text) / 10 ^ k) (sym is.counted.zeros) ∙ div-eq_of_eq-mul_left (tens_pos z) (sym (is.counted.value short)) in
    let turned : pos s +ℤ p ≡ p +ℤ pos s = omega (arith, ints) in
    let close = same_near s z r.far r.less r.negative r.zeros_is r.less_is
    (subst (λ x. negsuc 29 ≤ℤ (x +ℤ pos z)) r.near fine_is) (subst (λ x. (pos s +ℤ x) ≤ℤ pos 36) r.near (subst (λ x. x ≤ℤ pos 36) (sym turned) size_is)) in
    let scale_is : scale text ≡ p = r.scale ∙ ap (λ e. at_scale r.negative e r.less) (sym close) ∙ sym r.near in
    let m_is : signed text (rest text) ≡ cond negative (neg_ℤ (pos v)) (pos v) =
    ap (λ x. signed text x) rest_is ∙ ap (λ b. cond b (neg_ℤ (pos v)) (pos v)) (sym is.sign) in
    let e_is : scale text +ℤ pos (zeros text) ≡ p +ℤ pos z =
    ap (λ x. x +ℤ pos (zeros text)) scale_is ∙ ap (λ k. p +ℤ pos k) (sym is.counted.zeros) in
    number-if text ∙ gives (is_number text) (few text) (fine text) (reaches 36 text) (value_of text) is.number
    (lt-ltb _ _ (subst (λ x. x < 10 ^ 24) (sym (magnitude_some text above ∙ rest_is)) digits_is))
    (fine-is text negative v z s p is some ∙ most_z (negsuc 29) (p +ℤ pos z) fine_is) low
    ∙ ap Some (value_some text above ∙ two _ _ _ _ m_is e_is)

pub times_under : (v n k t : ℕ) → v < 10 ^ n → n + k ≤ t → v * 10 ^ k < 10 ^ t
times_under v n k t below less =
    let apart : 10 ^ (n + k) ≡ 10 ^ n * 10 ^ k = pow-add 10 n k in
    let wide : suc v * 10 ^ k ≤ 10 ^ n * 10 ^ k = mul-le-mul_right (10 ^ k) below in
    omega (arith, apart, wide, tens_pos k, tens_mono (n + k) t less)

-- ---- numbers and bounds

out : (n r : Bool) (d : Decimal) → n ≡ true → cond (n && r) (Some d) None ≡ None → r ≡ false
out true true d e none = cc
out true false d e none = refl
out false r d e none = cc

pub out_of_range : (text : Word) → is_number text ≡ true → number text ≡ None → is_in_range text ≡ false
out_of_range text e none = out (is_number text) (is_in_range text) (value_of text) e none

finite_at : (n r h : Bool) (v d : Decimal) (w : Option Limit) → n ≡ true → h ≡ false → cond (n && r) (Some v) None ≡ Some d
    → cond n (cond h w (cond r (Some (Finite v)) None)) None ≡ Some (Finite d)
finite_at true true false v d w n_is h_is e = ap (λ x. Some (Finite x)) (let same : v ≡ d = cc in same)
finite_at true true true v d w n_is h_is e = cc
finite_at true false h v d w n_is h_is e = cc
finite_at false r h v d w n_is h_is e = cc

pub bound_finite : (text : Word) (d : Decimal) → is_number text ≡ true → reaches 20 text ≡ false → number text ≡ Some d → limit text ≡ Some (Finite d)
bound_finite text d n h e =
    finite_at (is_number text) (is_in_range text) (reaches 20 text) (value_of text) d (Some (if is_negative text then Minus else Plus)) n h e

none_bound : (n r h : Bool) (v : Decimal) (w : Option Limit) → n ≡ true → h ≡ false → cond (n && r) (Some v) None ≡ None
    → cond n (cond h w (cond r (Some (Finite v)) None)) None ≡ None
none_bound true true h v w n_is h_is e = cc
none_bound true false false v w n_is h_is e = refl
none_bound true false true v w n_is h_is e = cc
none_bound false r h v w n_is h_is e = cc

pub bound_none : (text : Word) → is_number text ≡ true → reaches 20 text ≡ false → number text ≡ None → limit text ≡ None
bound_none text n h e =
    none_bound (is_number text) (is_in_range text) (reaches 20 text) (value_of text) (Some (if is_negative text then Minus else Plus)) n h e

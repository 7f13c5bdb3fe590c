-- A number's limits, by its digits and a scale of which only the sign counts where it is far.
use Rattle.std.proofs.Common.{◌≡◌, refl, sym, ap, subst, ◌∙◌, arith, ℕ, zero, suc, ◌+◌, ◌-◌, ◌*◌, ◌^◌, ◌<◌, ◌≤◌, Bool, true, false, cond, ◌&&◌, [], ◌∷◌, length, nat_lt, mul-le-mul_right, ⊎_elim, length-append, SFits, to_z, of_z}
use Rattle.std.specs.Prelude.{ℤ, pos, negsuc, int_lt, int_le, ◌+ℤ◌, ◌-ℤ◌, ◌≤ℤ◌, ◌<ℤ◌}
use Rattle.std.proofs.Math.IntN.{neg_ℤ}
use Rattle.std.specs.List.{list_all, prefix_len, before_first}
use Rattle.std.specs.Int.{w128}
use Rattle.std.proofs.lemmas.Int.{ints, to_z-of_z}
use Rattle.std.proofs.lemmas.Bool.{lt-ltb, cases_lt}
use Rattle.std.proofs.lemmas.List.Sums.{suffix_len-le-length}
use Rattle.cgl_num.specs.NumberText.{Word, natural, is_digit, is_zero, is_negative, is_point, mantissa, digits, decimals, exponent, unsigned, size, scale, reaches, near, IsForm}
use Rattle.cgl_num.proofs.DecimalLaws.{tens_pos}
use Rattle.cgl_num.proofs.DigitLaws.{digits_from, digits-low, zero-is as zero_digit, nonzero-is, and-left, and-right}

-- ---- a scale that is far

pub less_z : (a b : ℤ) → a <ℤ b → int_lt a b ≡ true
less_z a b h = grind (arith, ints)

pub not_less_z : (a b : ℤ) → b ≤ℤ a → int_lt a b ≡ false
not_less_z a b h = grind (arith, ints)

pub from_less : (a b : ℤ) → int_lt a b ≡ true → a <ℤ b
from_less a b h = grind (arith, ints)

pub from_not_less : (a b : ℤ) → int_lt a b ≡ false → b ≤ℤ a
from_not_less a b h = grind (arith, ints)

-- a scale and a count, added in 128 bits
pub sum_read : (z scale : ℤ) (count : ℕ) → SFits w128 z → SFits w128 scale → z ≡ to_z w128 (of_z w128 scale) +ℤ pos count
    → to_z w128 (of_z w128 z) ≡ scale +ℤ pos count
sum_read z scale count fits scale_fits e = to_z-of_z w128 z fits ∙ e ∙ ap (λ x. x +ℤ pos count) (to_z-of_z w128 scale scale_fits)

abbrev pub at_scale : Bool → ℕ → ℕ → ℤ
at_scale negative e less = cond negative (neg_ℤ (pos e)) (pos e) -ℤ pos less

near_is : (e : ℕ) → e ≤ 10 ^ 30 → near e ≡ e
near_is e h = omega (arith, h)

pub most_z : (a b : ℤ) → a ≤ℤ b → int_le a b ≡ true
most_z a b h = grind (arith, ints)

pub not_most_z : (a b : ℤ) → b <ℤ a → int_le a b ≡ false
not_most_z a b h = grind (arith, ints)

-- where the scale is far below, and far above
reach_down : (k s e l : ℕ) → s < 2 ^ 64 → 10 ^ 30 ≤ e → int_lt (pos k) (pos s +ℤ at_scale true e l) ≡ false
reach_down k s e l s_is far = not_less_z (pos k) (pos s +ℤ at_scale true e l) (omega (arith, ints, far, s_is))

reach_up : (k s e l : ℕ) → l < 2 ^ 64 → k ≤ 1000 → 10 ^ 30 ≤ e → int_lt (pos k) (pos s +ℤ at_scale false e l) ≡ true
reach_up k s e l l_is small far = less_z (pos k) (pos s +ℤ at_scale false e l) (omega (arith, ints, far, l_is, small))

fine_down : (z e l : ℕ) → z < 2 ^ 64 → 10 ^ 30 ≤ e → int_le (negsuc 29) (at_scale true e l +ℤ pos z) ≡ false
fine_down z e l z_is far = not_most_z (negsuc 29) (at_scale true e l +ℤ pos z) (omega (arith, ints, far, z_is))

fine_up : (z e l : ℕ) → l < 2 ^ 64 → 10 ^ 30 ≤ e → int_le (negsuc 29) (at_scale false e l +ℤ pos z) ≡ true
fine_up z e l l_is far = most_z (negsuc 29) (at_scale false e l +ℤ pos z) (omega (arith, ints, far, l_is))

far_near : (e : ℕ) → 10 ^ 30 < e → 10 ^ 30 ≤ near e
far_near e h = omega (arith, h)

far_most : (e : ℕ) → 10 ^ 30 < e → 10 ^ 30 ≤ e
far_most e h = omega (arith, h)

pub reach_near : (k s e l : ℕ) (negative : Bool) → k ≤ 1000 → s < 2 ^ 64 → l < 2 ^ 64
    → int_lt (pos k) (pos s +ℤ at_scale negative e l) ≡ int_lt (pos k) (pos s +ℤ at_scale negative (near e) l)
reach_near k s e l true small s_is l_is =
    ⊎_elim (λ far. reach_down k s e l s_is (far_most e far) ∙ sym (reach_down k s (near e) l s_is (far_near e far)))
    (λ close. ap (λ n. int_lt (pos k) (pos s +ℤ at_scale true n l)) (sym (near_is e close))) (cases_lt (10 ^ 30) e)
reach_near k s e l false small s_is l_is =
    ⊎_elim (λ far. reach_up k s e l l_is small (far_most e far) ∙ sym (reach_up k s (near e) l l_is small (far_near e far)))
    (λ close. ap (λ n. int_lt (pos k) (pos s +ℤ at_scale false n l)) (sym (near_is e close))) (cases_lt (10 ^ 30) e)

pub fine_near : (z e l : ℕ) (negative : Bool) → z < 2 ^ 64 → l < 2 ^ 64
    → int_le (negsuc 29) (at_scale negative e l +ℤ pos z) ≡ int_le (negsuc 29) (at_scale negative (near e) l +ℤ pos z)
fine_near z e l true z_is l_is =
    ⊎_elim (λ far. fine_down z e l z_is (far_most e far) ∙ sym (fine_down z (near e) l z_is (far_near e far)))
    (λ close. ap (λ n. int_le (negsuc 29) (at_scale true n l +ℤ pos z)) (sym (near_is e close))) (cases_lt (10 ^ 30) e)
fine_near z e l false z_is l_is =
    ⊎_elim (λ far. fine_up z e l l_is (far_most e far) ∙ sym (fine_up z (near e) l l_is (far_near e far)))
    (λ close. ap (λ n. int_le (negsuc 29) (at_scale false n l +ℤ pos z)) (sym (near_is e close))) (cases_lt (10 ^ 30) e)

-- a scale within the limits is not far
pub same_near : (s z e l : ℕ) (negative : Bool) → z < 2 ^ 64 → l < 2 ^ 64 → negsuc 29 ≤ℤ (at_scale negative (near e) l +ℤ pos z)
    → (pos s +ℤ at_scale negative (near e) l) ≤ℤ pos 36 → near e ≡ e
same_near s z e l true z_is l_is fine size = omega (arith, ints, fine, z_is)
same_near s z e l false z_is l_is fine size = omega (arith, ints, size, l_is)

-- ---- digits of a number above 0, and of 0

none-at : (d : ℕ) (ds : Word) (t : Bool) → is_zero d ≡ t → (size ds ≡ 0 → natural ds ≡ 0) → suc (length ds) - cond t (1 + prefix_len is_zero ds) 0 ≡ 0
    → digits_from (d - 48) ds ≡ 0
none-at d ds true e later none = ap (λ a. digits_from a ds) (zero_digit d e) ∙ later (omega (arith, none))
none-at d ds false e later none = absurd (omega (arith, none))

pub size_none : (ds : Word) → size ds ≡ 0 → natural ds ≡ 0
size_none [] none = refl
size_none (d ∷ ds) none =
    let from : natural (d ∷ ds) ≡ digits_from (d - 48) ds = ap (λ a. digits_from a ds) (omega arith) in
    from ∙ none-at d ds (is_zero d) refl (size_none ds) none

some-at : (d : ℕ) (ds : Word) (t : Bool) → is_digit d ≡ true → is_zero d ≡ t → (0 < size ds → 0 < natural ds)
    → 0 < suc (length ds) - cond t (1 + prefix_len is_zero ds) 0 → 0 < digits_from (d - 48) ds
some-at d ds true digit e later some =
    let same : digits_from (d - 48) ds ≡ natural ds = ap (λ a. digits_from a ds) (zero_digit d e) in
    omega (arith, same, later (omega (arith, some)))
some-at d ds false digit e later some =
    let one : 1 * 10 ^ length ds ≤ (d - 48) * 10 ^ length ds = mul-le-mul_right (10 ^ length ds) (nonzero-is d digit e) in
    omega (arith, one, digits-low (d - 48) ds, tens_pos (length ds))

pub size_some : (ds : Word) → list_all is_digit ds ≡ true → 0 < size ds → 0 < natural ds
size_some [] all some = absurd (omega (arith, some))
size_some (d ∷ ds) all some =
    let from : natural (d ∷ ds) ≡ digits_from (d - 48) ds = ap (λ a. digits_from a ds) (omega arith) in
    omega (arith, from, some-at d ds (is_zero d) (and-left _ _ all) refl (size_some ds (and-right _ _ all)) some)

-- ---- a number by its parts

-- what the parts say of the text
pub record IsRead (text : Word) (v z s : ℕ) (p : ℤ) : Type 0 where
  pub far : ℕ
  pub less : ℕ
  pub negative : Bool
  pub scale : scale text ≡ at_scale negative far less
  pub near : p ≡ at_scale negative (near far) less
  pub less_is : less < 2 ^ 64
  pub zeros_is : z < 2 ^ 64
  pub size_is : s < 2 ^ 64

pub read-is : (text : Word) (negative : Bool) (v z s : ℕ) (p : ℤ) → IsForm text negative v z s p → IsRead text v z s p
read-is text negative v z s p is =
    let zeros = suffix_len-le-length is_zero (digits text) in
    record {
      far = natural (unsigned (exponent text));
      less = length (decimals text);
      negative = is_negative (exponent text);
      scale = refl;
      near = is.scale;
      less_is = omega (arith, length-append (before_first is_point (mantissa text)) (decimals text), is.short);
      zeros_is = omega (arith, zeros, is.counted.zeros, is.short);
      size_is = omega (arith, is.counted.size, is.short);
    }

abbrev pub size_test : ℕ → Word → Bool
size_test k text = int_lt (pos k) (pos (size (digits text)) +ℤ scale text)

size_plain : (k n s e l : ℕ) (q p : ℤ) (negative : Bool) → s ≡ n → q ≡ at_scale negative e l → p ≡ at_scale negative (near e) l
    → k ≤ 1000 → s < 2 ^ 64 → l < 2 ^ 64 → int_lt (pos k) (pos n +ℤ q) ≡ int_lt (pos k) (p +ℤ pos s)
size_plain k n s e l q p negative n_is q_is p_is small s_is l_is =
    let turned : pos s +ℤ p ≡ p +ℤ pos s = omega (arith, ints) in
    ap (λ x. int_lt (pos k) (pos x +ℤ q)) (sym n_is) ∙ ap (λ x. int_lt (pos k) (pos s +ℤ x)) q_is ∙ reach_near k s e l negative small s_is l_is
    ∙ ap (λ x. int_lt (pos k) (pos s +ℤ x)) (sym p_is) ∙ ap (λ x. int_lt (pos k) x) turned

pub size_near : (k : ℕ) (text : Word) (negative : Bool) (v z s : ℕ) (p : ℤ) → IsForm text negative v z s p → k ≤ 1000
    → size_test k text ≡ int_lt (pos k) (p +ℤ pos s)
size_near k text negative v z s p is small =
    let r = read-is text negative v z s p is in
    size_plain k (size (digits text)) s r.far r.less (scale text) p r.negative is.counted.size r.scale r.near small r.size_is r.less_is

same_test : (n s : ℕ) → (0 < s → 0 < n) → (s ≡ 0 → n ≡ 0) → nat_lt 0 n ≡ nat_lt 0 s
same_test n zero some none = ap (λ x. nat_lt 0 x) (none refl)
same_test n (suc s) some none = lt-ltb 0 n (some (omega arith)) ∙ sym (lt-ltb 0 (suc s) (omega arith))

pub above_none : (text : Word) (negative : Bool) (v z s : ℕ) (p : ℤ) → IsForm text negative v z s p → 0 < s → 0 < natural (digits text)
above_none text negative v z s p is some = size_some (digits text) is.counted.all (subst (λ n. 0 < n) is.counted.size some)

pub is_none : (text : Word) (negative : Bool) (v z s : ℕ) (p : ℤ) → IsForm text negative v z s p → s ≡ 0 → natural (digits text) ≡ 0
is_none text negative v z s p is none = size_none (digits text) (sym is.counted.size ∙ none)

pub reach-is : (k : ℕ) (text : Word) (negative : Bool) (v z s : ℕ) (p : ℤ) → IsForm text negative v z s p → k ≤ 1000
    → reaches k text ≡ (nat_lt 0 s && int_lt (pos k) (p +ℤ pos s))
reach-is k text negative v z s p is small =
    ap (λ t. t && size_test k text) (same_test (natural (digits text)) s (above_none text negative v z s p is) (is_none text negative v z s p is))
    ∙ ap (λ t. nat_lt 0 s && t) (size_near k text negative v z s p is small)

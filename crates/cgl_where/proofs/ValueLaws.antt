-- Values: digits that are too many, and numbers and quotients.
use Rattle.std.proofs.Common.{◌≡◌, refl, sym, ap, ap₂, ◌∙◌, arith, ℕ, suc, ◌+◌, ◌-◌, ◌*◌, ◌^◌, ◌<◌, ◌≤◌, ◌==◌, nat_lt, Bool, true, false, cond, ◌&&◌, [], ◌∷◌, length, take, drop, drop-cons, get_or, Option, Some, None, mul-le-mul_right}
use Rattle.std.specs.Prelude.{pos, is_some, option_map, position}
use Rattle.std.specs.List.{list_all, list_any, position_or_len}
use Rattle.std.proofs.lemmas.List.{take-append-drop, take_all, take_more}
use Rattle.std.proofs.lemmas.List.Folds.{list_all_at, list_all_more}
use Rattle.std.proofs.lemmas.List.Sums.{fold-append}
use Rattle.std.proofs.lemmas.Bool.Decides.{nat_tests}
use Rattle.cgl_num.specs.NumberText.{Word, natural, unsigned, signed, number, is_digit, is_digits}
use Rattle.cgl_num.proofs.DigitLaws.{and-right, digits_from, digits-low}
use Rattle.cgl_num.proofs.DecimalLaws.{tens_pos}
use Rattle.cgl_text.proofs.NameLaws.{is_found}
use Rattle.cgl_where.specs.Limits.{fitting_natural}
use Rattle.cgl_where.specs.PointValue.{numerator, denominator, fraction_of, is_slash, is_quotient, quotient, value}
use Rattle.cgl_num.specs.Fraction.{lowest}

grows : (a : ℕ) (digits : Word) → a ≤ digits_from a digits
grows a digits =
    let one : 1 * a ≤ 10 ^ length digits * a = mul-le-mul_right a (tens_pos (length digits)) in
    omega (arith, one, digits-low a digits)

parted : (digits : Word) (i : ℕ) → i < length digits → natural digits ≡ digits_from (10 * natural (take i digits) + (get_or digits i 0 - 48)) (drop (suc i) digits)
parted digits i lt =
    ap natural (sym (take-append-drop i digits))
    ∙ fold-append (λ n b. 10 * n + (b - 48)) 0 (take i digits) (drop i digits)
    ∙ ap (digits_from (natural (take i digits))) (drop-cons digits i 0 lt)

none_fits : (digits : Word) (b : Bool) → 10 ^ 36 ≤ natural digits → None ≡ cond (b && nat_lt (natural digits) (10 ^ 36)) (Some (natural digits)) None
none_fits digits true le = let no : nat_lt (natural digits) (10 ^ 36) ≡ false = grind (arith, nat_tests) in ap (λ c. cond c (Some (natural digits)) None) (sym no)
none_fits digits false le = refl

-- digits whose front is too large are too large
pub too_large : (digits : Word) (i number : ℕ) → i < length digits → number ≡ natural (take i digits) → 10 ^ 36 ≤ 10 * number + (get_or digits i 0 - 48) → None ≡ fitting_natural digits
too_large digits i number lt is le =
    let more = grows (10 * natural (take i digits) + (get_or digits i 0 - 48)) (drop (suc i) digits) in
    none_fits digits (is_digits digits) (omega (arith, le, is, more, parted digits i lt))

-- ---- the digits of a number

and_false : (b : Bool) → (b && false) ≡ false
and_false true = refl
and_false false = refl

pub some_left : (n : ℕ) → (suc n == 0) ≡ false
some_left n = grind (arith, nat_tests)

pub digit_kept : (digits : Word) (i : ℕ) (b : Bool) → i < length digits → b ≡ is_digit (get_or digits i 0) → b ≡ true → list_all is_digit (take i digits) ≡ true
    → list_all is_digit (take (i + 1) digits) ≡ true
digit_kept digits i b lt is met before = list_all_more is_digit digits i 0 lt ∙ ap₂ (λ (p q : Bool). p && q) before (sym is ∙ met)

pub no_digit : (digits : Word) (i : ℕ) (b : Bool) → i < length digits → b ≡ is_digit (get_or digits i 0) → b ≡ false → false ≡ is_digits digits
no_digit digits i b lt is unmet = sym (ap (λ (q : Bool). nat_lt 0 (length digits) && q) (list_all_at is_digit digits i 0 lt (sym is ∙ unmet)) ∙ and_false (nat_lt 0 (length digits)))

pub no_digits : (digits : Word) (b : Bool) → b ≡ (length digits == 0) → b ≡ true → false ≡ is_digits digits
no_digits [] b is met = refl
no_digits (d ∷ digits) b is met = cc (some_left (length digits))

pub all_digits : (digits : Word) (i : ℕ) (b : Bool) → b ≡ (length digits == 0) → b ≡ false → length digits ≤ i → list_all is_digit (take i digits) ≡ true → true ≡ is_digits digits
all_digits digits i b is some end all =
    let first : nat_lt 0 (length digits) ≡ true = grind (arith, nat_tests) in
    sym (ap₂ (λ (p q : Bool). p && q) first (sym (ap (list_all is_digit) (take_all i digits end)) ∙ all))

pub natural_more : (digits : Word) (i number : ℕ) → i < length digits → number ≡ natural (take i digits) → 10 * number + (get_or digits i 0 - 48) ≡ natural (take (i + 1) digits)
natural_more digits i number lt is =
    ap (λ n. 10 * n + (get_or digits i 0 - 48)) is
    ∙ sym (ap natural (take_more digits i 0 lt) ∙ fold-append (λ n b. 10 * n + (b - 48)) 0 (take i digits) (get_or digits i 0 ∷ []))

pub natural_fits : (digits : Word) (i number : ℕ) → true ≡ is_digits digits → length digits ≤ i → number ≡ natural (take i digits) → number < 10 ^ 36 → Some number ≡ fitting_natural digits
natural_fits digits i number met end value below =
    let all : number ≡ natural digits = value ∙ ap natural (take_all i digits end) in
    let within : nat_lt (natural digits) (10 ^ 36) ≡ true = grind (arith, nat_tests) in
    ap Some all ∙ sym (ap₂ (λ (p q : Bool). cond (p && q) (Some (natural digits)) None) (sym met) within)

pub no_natural : (digits : Word) → false ≡ is_digits digits → None ≡ fitting_natural digits
no_natural digits unmet = ap (λ (p : Bool). cond (p && nat_lt (natural digits) (10 ^ 36)) (Some (natural digits)) None) unmet

-- ---- a number, or a quotient

place_case : (b : Bool) (n place : ℕ) → cond b (Some n) None ≡ Some place → place ≡ n
place_case true n place e = cc
place_case false n place e = cc

pub slash_place : (text : Word) (found : Option ℕ) (place : ℕ) → found ≡ position is_slash text → found ≡ Some place → place ≡ position_or_len is_slash text
slash_place text found place is some = place_case (nat_lt (position_or_len is_slash text) (length text)) (position_or_len is_slash text) place (sym is ∙ some)

has_slash : (text : Word) (found : Option ℕ) → found ≡ position is_slash text → is_some found ≡ list_any is_slash text
has_slash text found is = ap is_some is ∙ is_found is_slash text

pub value_quotient : (text : Word) (found : Option ℕ) (place : ℕ) → found ≡ position is_slash text → found ≡ Some place → quotient text ≡ value text
unfolding value
value_quotient text found place is some = ap (λ b. cond b (quotient text) (option_map fraction_of (number text))) (sym (ap is_some some) ∙ has_slash text found is)

pub value_number : (text : Word) (found : Option ℕ) → found ≡ position is_slash text → found ≡ None → option_map fraction_of (number text) ≡ value text
unfolding value
value_number text found is none = ap (λ b. cond b (quotient text) (option_map fraction_of (number text))) (sym (ap is_some none) ∙ has_slash text found is)

-- ---- a quotient by its parts

unfit : (b : Bool) (n : ℕ) → None ≡ cond b (Some n) None → b ≡ false
unfit true n e = cc
unfit false n e = refl

fit : (b : Bool) (n k : ℕ) → Some k ≡ cond b (Some n) None → (b ≡ true) × (k ≡ n)
fit true n k e = (refl, cc)
fit false n k e = cc

below_true : (n : ℕ) → nat_lt n (10 ^ 36) ≡ true → n < 10 ^ 36
below_true n e = grind (arith, nat_tests)

pub natural_within : (digits : Word) (found : Option ℕ) (n : ℕ) → found ≡ fitting_natural digits → found ≡ Some n → n < 10 ^ 36
natural_within digits found n is some =
    let both = fit (is_digits digits && nat_lt (natural digits) (10 ^ 36)) (natural digits) n (sym some ∙ is) in
    let below : natural digits < 10 ^ 36 = below_true (natural digits) (and-right (is_digits digits) (nat_lt (natural digits) (10 ^ 36)) both.0) in
    omega (arith, below, both.1)

no_first : (a b z s t : Bool) → (a && s) ≡ false → (a && b && z && s && t) ≡ false
no_first false b z s t e = refl
no_first true b z false t e = ap (λ p. p && t) (and_false (b && z))
no_first true b z true t e = cc

no_second : (a b z s t : Bool) → (b && t) ≡ false → (a && b && z && s && t) ≡ false
no_second a false z s t e = ap (λ p. p && z && s && t) (and_false a)
no_second a true z s false e = and_false (a && true && z && s)
no_second a true z s true e = cc

no_middle : (a b z s t : Bool) → z ≡ false → (a && b && z && s && t) ≡ false
no_middle a b false s t e = ap (λ p. p && s && t) (and_false (a && b))
no_middle a b true s t e = cc

all_parts : (a b z s t : Bool) → (a && s) ≡ true → (b && t) ≡ true → z ≡ true → (a && b && z && s && t) ≡ true
all_parts false b z s t p q r = cc
all_parts true false z s t p q r = cc
all_parts true true false s t p q r = cc
all_parts true true true false t p q r = cc
all_parts true true true true t p q r = q

abbrev has_num : Word → Bool
has_num text = is_digits (unsigned (numerator text))

abbrev has_den : Word → Bool
has_den text = is_digits (denominator text)

abbrev some_den : Word → Bool
some_den text = nat_lt 0 (natural (denominator text))

abbrev num_below : Word → Bool
num_below text = nat_lt (natural (unsigned (numerator text))) (10 ^ 36)

abbrev den_below : Word → Bool
den_below text = nat_lt (natural (denominator text)) (10 ^ 36)

no_quotient : (text : Word) → is_quotient text ≡ false → None ≡ quotient text
no_quotient text e = ap (λ b. cond b (Some (lowest (signed (numerator text) (natural (unsigned (numerator text)))) (pos (natural (denominator text))))) None) (sym e)

pub no_numerator : (text : Word) (num : Option ℕ) → num ≡ fitting_natural (unsigned (numerator text)) → num ≡ None → None ≡ quotient text
no_numerator text num is none = no_quotient text (no_first (has_num text) (has_den text) (some_den text) (num_below text) (den_below text) (unfit (has_num text && num_below text) _ (sym none ∙ is)))

pub no_denominator : (text : Word) (den : Option ℕ) → den ≡ fitting_natural (denominator text) → den ≡ None → None ≡ quotient text
no_denominator text den is none = no_quotient text (no_second (has_num text) (has_den text) (some_den text) (num_below text) (den_below text) (unfit (has_den text && den_below text) _ (sym none ∙ is)))

none_above : (d n : ℕ) → d ≡ n → d ≡ 0 → nat_lt 0 n ≡ false
none_above d n is zero_too = grind (arith, nat_tests)

some_above : (d n : ℕ) → d ≡ n → (d ≡ 0 → ⊥) → nat_lt 0 n ≡ true
some_above d n is other = grind (arith, nat_tests)

pub zero_denominator : (text : Word) (den : Option ℕ) (d : ℕ) → den ≡ fitting_natural (denominator text) → den ≡ Some d → d ≡ 0 → None ≡ quotient text
zero_denominator text den d is some zero_too = no_quotient text (no_middle (has_num text) (has_den text) (some_den text) (num_below text) (den_below text) (none_above d _ (fit (has_den text && den_below text) (natural (denominator text)) d (sym some ∙ is)).1 zero_too))

pub quotient_is : (text : Word) (num den : Option ℕ) (n d : ℕ) → num ≡ fitting_natural (unsigned (numerator text)) → den ≡ fitting_natural (denominator text) → num ≡ Some n → den ≡ Some d → (d ≡ 0 → ⊥)
    → Some (lowest (signed (numerator text) n) (pos d)) ≡ quotient text
quotient_is text num den n d num_is den_is some_n some_d other =
    let first = fit (has_num text && num_below text) (natural (unsigned (numerator text))) n (sym some_n ∙ num_is) in
    let second = fit (has_den text && den_below text) (natural (denominator text)) d (sym some_d ∙ den_is) in
    ap₂ (λ k e. Some (lowest (signed (numerator text) k) (pos e))) first.1 second.1
    ∙ ap (λ b. cond b (Some (lowest (signed (numerator text) (natural (unsigned (numerator text)))) (pos (natural (denominator text))))) None)
    (sym (all_parts (has_num text) (has_den text) (some_den text) (num_below text) (den_below text) first.0 second.0 (some_above d _ second.1 other)))

-- Digits around a point, and where a byte among them is none.
use Rattle.std.proofs.Common.{◌≡◌, sym, ap, subst, ◌∙◌, arith, ℕ, zero, suc, ◌+◌, ◌^◌, ◌<◌, ◌≤◌, Bool, true, false, not, ◌&&◌, drop, take, get_or, Option, Some, None, IfSome, IfNone, [], ◌∷◌, ◌++◌, length, refl, ltb, length-append, length-take, length-drop}
use Rattle.std.specs.List.{list_all, position_or_len}
use Rattle.std.proofs.lemmas.List.{take_all}
use Rattle.std.proofs.lemmas.List.Sums.{prefix_len-le-length}
use Rattle.std.proofs.lemmas.List.Folds.{list_all-append}
use Rattle.cgl_num.specs.NumberText.{Word, is_digit, is_digits, is_point, digits_in, IsCounted}

pub if_none_then : {A P Q : Type 0} (r : Option A) → IfNone r P → (P → Q) → IfNone r Q
if_none_then None is then = then is
if_none_then (Some x) is then = is

pub in_any_case : {A P : Type 0} (r : Option A) → P → IfSome r (λ _. P)
in_any_case None p = tt
in_any_case (Some x) p = p

and_none : (b : Bool) → (b && false) ≡ false
and_none true = refl
and_none false = refl

pub not_all : (text : Word) (i : ℕ) → i < length text → is_digit (get_or text i 0) ≡ false → list_all is_digit text ≡ false
not_all [] i less bad = absurd (omega (arith, less))
not_all (d ∷ text) zero less bad = ap (λ t. t && list_all is_digit text) bad
not_all (d ∷ text) (suc i) less bad = ap (λ t. is_digit d && t) (not_all text i (omega (arith, less)) bad) ∙ and_none (is_digit d)

pub whole_counted : (before text : Word) (i v z s : ℕ) → length text ≤ i → IsCounted (before ++ take i text) v z s → IsCounted (before ++ text) v z s
whole_counted before text i v z s all is = subst (λ ds. IsCounted (before ++ ds) v z s) (take_all i text all) is

pub one_more : (a b s i : ℕ) → a ≤ s + i → b ≤ a + 1 → b ≤ s + (i + 1)
one_more a b s i le step = omega (arith, le, step)

pub point_within : (text : Word) (point : ℕ) → point ≡ position_or_len is_point text → point ≤ length text
point_within text point at = omega (arith, prefix_len-le-length (λ b. not (is_point b)) text, at)

pub first_room : (text : Word) (point n : ℕ) → length text < 2 ^ 64 → n ≡ 0 → n + length (take point text) < 2 ^ 64
first_room text point n fits none = omega (arith, length-take point text)

pub second_room : (text rest : Word) (point n k : ℕ) → length text < 2 ^ 64 → k ≡ 0 → n ≤ k + length (take point text) → rest ≡ drop (point + 1) text → n + length rest < 2 ^ 64
second_room text rest point n k fits none most is = omega (arith, length-take point text, length-drop (point + 1) text, ap length is)

pub digits_short : (text : Word) → length text < 2 ^ 64 → length (digits_in text) < 2 ^ 64
digits_short text fits =
    let point = position_or_len is_point text in
    omega (arith, length-append (take point text) (drop (point + 1) text), length-take point text, length-drop (point + 1) text)

bad_digits : (before after : Word) → (list_all is_digit before && list_all is_digit after) ≡ false → is_digits (before ++ after) ≡ false
bad_digits before after bad = ap (λ t. ltb 0 (length (before ++ after)) && t) (list_all-append is_digit before after ∙ bad) ∙ and_none (ltb 0 (length (before ++ after)))

pub bad_before : (text : Word) (point : ℕ) → point ≡ position_or_len is_point text → list_all is_digit (take point text) ≡ false → is_digits (digits_in text) ≡ false
bad_before text point at bad =
    let place = position_or_len is_point text in
    bad_digits (take place text) (drop (place + 1) text) (ap (λ t. t && list_all is_digit (drop (place + 1) text)) (ap (λ n. list_all is_digit (take n text)) (sym at) ∙ bad))

pub bad_behind : (text rest : Word) (point : ℕ) → point ≡ position_or_len is_point text → rest ≡ drop (point + 1) text → list_all is_digit rest ≡ false → is_digits (digits_in text) ≡ false
bad_behind text rest point at is bad =
    let place = position_or_len is_point text in
    let after : list_all is_digit (drop (place + 1) text) ≡ false = ap (λ n. list_all is_digit (drop (n + 1) text)) (sym at) ∙ ap (list_all is_digit) (sym is) ∙ bad in
    bad_digits (take place text) (drop (place + 1) text) (ap (λ t. list_all is_digit (take place text) && t) after ∙ and_none (list_all is_digit (take place text)))

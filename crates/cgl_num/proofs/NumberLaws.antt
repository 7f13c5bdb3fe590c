-- Digits one by one.
use Rattle.std.proofs.Common.{◌≡◌, ◌≢◌, refl, sym, ap, subst, ◌∙◌, arith, ℕ, suc, ◌+◌, ◌-◌, ◌*◌, ◌%◌, ◌^◌, ◌<◌, ◌≤◌, Bool, true, false, cond, not, ◌&&◌, ◌||◌, drop, min, take, get_or, append_assoc, Option, Some, None, IfSome, [], ◌∷◌, ◌++◌, length, pow-suc, pow-add, add-one, mul-le-mul_right, eqb, ⊎_elim, length-append, length-take}
use Rattle.std.specs.List.{list_all, list_any, prefix_len, suffix_len, position_or_len, after_first}
use Rattle.std.specs.Prelude.{pos}
use Rattle.std.proofs.lemmas.Bool.{lt-ltb, cases_lt}
use Rattle.std.proofs.lemmas.Bool.Decides.{nat_tests}
use Rattle.std.proofs.lemmas.List.{reverse-append, drop_all, take_more}
use Rattle.std.proofs.lemmas.List.Sums.{fold-append, prefix_len-le-length}
use Rattle.std.proofs.lemmas.List.Folds.{list_all-append}
use Rattle.cgl_num.specs.NumberText.{Word, natural, is_digit, is_digits, is_zero, size, unsigned, near, is_point, is_exponent_letter, near_exponent, has_exponent_form, digits_in, IsCounted}
use Rattle.cgl_num.proofs.DecimalLaws.{tens_mono}

pub natural-push : (ds : Word) (b : ℕ) → natural (ds ++ b ∷ []) ≡ 10 * natural ds + (b - 48)
natural-push ds b = fold-append (λ n d. 10 * n + (d - 48)) 0 ds (b ∷ [])

pub all-push : (ds : Word) (b : ℕ) → list_all is_digit ds ≡ true → is_digit b ≡ true → list_all is_digit (ds ++ b ∷ []) ≡ true
all-push ds b all one = list_all-append is_digit ds (b ∷ []) ∙ ap (λ t. t && list_all is_digit (b ∷ [])) all ∙ ap (λ t. t && true) one

-- one digit more of a number that is known up to 10^30
pub near_all : (text : Word) (i : ℕ) → i < length text → list_all is_digit (take i text) ≡ true → is_digit (get_or text i 0) ≡ true → list_all is_digit (take (i + 1) text) ≡ true
near_all text i less all one = ap (list_all is_digit) (take_more text i 0 less) ∙ all-push (take i text) (get_or text i 0) all one

pub near_more : (text : Word) (i n m : ℕ) → i < length text → n ≡ near (natural (take i text)) → m ≡ min (10 * n + (get_or text i 0 - 48)) (10 ^ 30) → m ≡ near (natural (take (i + 1) text))
near_more text i n m less value is =
    let whole = ap natural (take_more text i 0 less) ∙ natural-push (take i text) (get_or text i 0) in
    omega (arith, value, is, whole)

pub suffix-push : (p : ℕ → Bool) (ds : Word) (b : ℕ) → suffix_len p (ds ++ b ∷ []) ≡ cond (p b) (1 + suffix_len p ds) 0
suffix-push p ds b = ap (prefix_len p) (reverse-append ds (b ∷ []))

size-zero : (d : ℕ) (ds : Word) → is_zero d ≡ true → size (d ∷ ds) ≡ size ds
size-zero d ds e =
    let less : suc (length ds) - (1 + prefix_len is_zero ds) ≡ length ds - prefix_len is_zero ds = omega arith in
    ap (λ t. suc (length ds) - cond t (1 + prefix_len is_zero ds) 0) e ∙ less

size-digit : (d : ℕ) (ds : Word) → is_zero d ≡ false → size (d ∷ ds) ≡ suc (length ds)
size-digit d ds e =
    let less : suc (length ds) - 0 ≡ suc (length ds) = omega arith in
    ap (λ t. suc (length ds) - cond t (1 + prefix_len is_zero ds) 0) e ∙ less

more-at : (d : ℕ) (ds : Word) (b : ℕ) (t : Bool) → is_zero d ≡ t → (0 < size ds → size (ds ++ b ∷ []) ≡ size ds + 1)
    → 0 < size (d ∷ ds) → size (d ∷ (ds ++ b ∷ [])) ≡ size (d ∷ ds) + 1
more-at d ds b true e later some =
    omega (arith, size-zero d ds e, size-zero d (ds ++ b ∷ []) e, later (omega (arith, some, size-zero d ds e)))
more-at d ds b false e later some =
    omega (arith, size-digit d ds e, size-digit d (ds ++ b ∷ []) e, length-append ds (b ∷ []))

pub size-more : (ds : Word) (b : ℕ) → 0 < size ds → size (ds ++ b ∷ []) ≡ size ds + 1
size-more [] b some = absurd (omega (arith, some))
size-more (d ∷ ds) b some = more-at d ds b (is_zero d) refl (size-more ds b) some

none-at : (d : ℕ) (ds : Word) (b : ℕ) (t : Bool) → is_zero d ≡ t → (size ds ≡ 0 → size (ds ++ b ∷ []) ≡ cond (is_zero b) 0 1)
    → size (d ∷ ds) ≡ 0 → size (d ∷ (ds ++ b ∷ [])) ≡ cond (is_zero b) 0 1
none-at d ds b true e later none = size-zero d (ds ++ b ∷ []) e ∙ later (sym (size-zero d ds e) ∙ none)
none-at d ds b false e later none = absurd (omega (arith, size-digit d ds e, none))

one_digit : (t : Bool) → suc 0 - cond t (1 + 0) 0 ≡ cond t 0 1
one_digit true = refl
one_digit false = refl

pub size-none : (ds : Word) (b : ℕ) → size ds ≡ 0 → size (ds ++ b ∷ []) ≡ cond (is_zero b) 0 1
size-none [] b none = one_digit (is_zero b)
size-none (d ∷ ds) b none = none-at d ds b (is_zero d) refl (size-none ds b) none

-- ---- one digit more

nonzero : (d : ℕ) → 0 < d → is_zero (48 + d) ≡ false
nonzero d some = grind (arith, nat_tests)

pub digit-is : (d : ℕ) → d < 10 → is_digit (48 + d) ≡ true
digit-is d small = grind (arith, nat_tests)

shift : (v z n : ℕ) → v * 10 ^ z ≡ n → v * 10 ^ (z + 1) ≡ 10 * n
shift v z n e =
    let power : 10 ^ (z + 1) ≡ 10 ^ z * 10 = (rw add-one (pow-suc 10 z)) in
    let product : v * (10 ^ z * 10) ≡ 10 * (v * 10 ^ z) = omega arith in
    ap (λ p. v * p) power ∙ product ∙ ap (λ x. 10 * x) e

nothing : (v z : ℕ) → v ≡ 0 → v * 10 ^ z ≡ 0
nothing v z e = let none : 0 * 10 ^ z ≡ 0 = omega arith in ap (λ x. x * 10 ^ z) e ∙ none

pub zero-first : (ds : Word) (v z s : ℕ) → IsCounted ds v z s → s ≡ 0 → v ≡ 0 → IsCounted (ds ++ 48 ∷ []) 0 (z + 1) 0
zero-first ds v z s is none empty = record {
  all = all-push ds 48 is.all refl;
  zeros = omega (arith, suffix-push is_zero ds 48, is.zeros);
  size = sym (size-none ds 48 (sym is.size ∙ none));
  value = (λ _. let e = is.value (omega (arith, none)) in let zero = nothing v z empty in
      omega (arith, natural-push ds 48, e, zero));
}

pub zero-more : (ds : Word) (v z s : ℕ) → IsCounted ds v z s → 0 < s → IsCounted (ds ++ 48 ∷ []) v (z + 1) (s + 1)
zero-more ds v z s is some = record {
  all = all-push ds 48 is.all refl;
  zeros = omega (arith, suffix-push is_zero ds 48, is.zeros);
  size = omega (arith, size-more ds 48 (omega (arith, some, is.size)), is.size);
  value = (λ few. omega (arith, natural-push ds 48, shift v z (natural ds) (is.value (omega (arith, few)))));
}

pub digit-first : (ds : Word) (v z s d : ℕ) → IsCounted ds v z s → s ≡ 0 → v ≡ 0 → 0 < d → d < 10 → IsCounted (ds ++ (48 + d) ∷ []) d 0 1
digit-first ds v z s d is none empty some small =
    let zero = nonzero d some in
    record {
      all = all-push ds (48 + d) is.all (digit-is d small);
      zeros = sym (suffix-push is_zero ds (48 + d) ∙ ap (λ t. cond t (1 + suffix_len is_zero ds) 0) zero);
      size = sym (size-none ds (48 + d) (sym is.size ∙ none) ∙ ap (λ t. cond t 0 1) zero);
      value = (λ _. let e = is.value (omega (arith, none)) in let product = nothing v z empty in
          omega (arith, natural-push ds (48 + d), e, product));
    }

pub digit-many : (ds : Word) (v z s d : ℕ) → IsCounted ds v z s → 24 ≤ s → 0 < d → d < 10 → IsCounted (ds ++ (48 + d) ∷ []) 0 0 (s + 1)
digit-many ds v z s d is many some small =
    let zero = nonzero d some in
    record {
      all = all-push ds (48 + d) is.all (digit-is d small);
      zeros = sym (suffix-push is_zero ds (48 + d) ∙ ap (λ t. cond t (1 + suffix_len is_zero ds) 0) zero);
      size = omega (arith, size-more ds (48 + d) (omega (arith, many, is.size)), is.size);
      value = (λ few. absurd (omega (arith, few, many)));
    }

pub digit-more : (ds : Word) (v z s d p : ℕ) → IsCounted ds v z s → 0 < s → s < 24 → p ≡ 10 ^ (z + 1) → 0 < d → d < 10
    → IsCounted (ds ++ (48 + d) ∷ []) (v * p + d) 0 (s + 1)
digit-more ds v z s d p is more few power some small =
    let zero = nonzero d some in
    record {
      all = all-push ds (48 + d) is.all (digit-is d small);
      zeros = sym (suffix-push is_zero ds (48 + d) ∙ ap (λ t. cond t (1 + suffix_len is_zero ds) 0) zero);
      size = omega (arith, size-more ds (48 + d) (omega (arith, more, is.size)), is.size);
      value = (λ _. let e = shift v z (natural ds) (is.value (omega (arith, few))) in
          let same : v * p ≡ v * 10 ^ (z + 1) = ap (λ x. v * x) power in
          omega (arith, natural-push ds (48 + d), e, same));
    }

-- the number stays below a power of ten
pub push_below : (v z s d p n : ℕ) → v < 10 ^ (s - z) → z < s → p ≡ 10 ^ (z + 1) → d < 10 → n ≡ s + 1 → v * p + d < 10 ^ n
push_below v z s d p n below less power small is =
    let sum : n ≡ s - z + (z + 1) = omega (arith, less, is) in
    let apart : 10 ^ n ≡ 10 ^ (s - z) * 10 ^ (z + 1) = ap (λ k. 10 ^ k) sum ∙ pow-add 10 (s - z) (z + 1) in
    let wide : suc v * 10 ^ (z + 1) ≤ 10 ^ (s - z) * 10 ^ (z + 1) = mul-le-mul_right (10 ^ (z + 1)) below in
    let ten : 10 ≤ 10 ^ (z + 1) = tens_mono 1 (z + 1) (omega arith) in
    let same : v * p ≡ v * 10 ^ (z + 1) = ap (λ x. v * x) power in
    omega (arith, apart, wide, ten, same, small)

pub push_small : (v z s d p : ℕ) → v < 10 ^ (s - z) → z < s → s < 24 → p ≡ 10 ^ (z + 1) → d < 10 → v * p + d < 10 ^ 24
push_small v z s d p below less few power small = omega (arith, push_below v z s d p (s + 1) below less power small refl, tens_mono (s + 1) 24 (omega (arith, few)))

pub push_normal : (v z d p : ℕ) → p ≡ 10 ^ (z + 1) → 0 < d → d < 10 → (v * p + d) % 10 ≢ 0
push_normal v z d p power some small none =
    let tens : 10 ^ (z + 1) ≡ 10 ^ z * 10 = (rw add-one (pow-suc 10 z)) in
    let same : v * p ≡ 10 * (v * 10 ^ z) = ap (λ x. v * x) (power ∙ tens) ∙ (let product : v * (10 ^ z * 10) ≡ 10 * (v * 10 ^ z) = omega arith in product) in
    omega (arith, same, none, some, small)

-- ---- letters and points

any-at : (p : ℕ → Bool) (x : ℕ) (xs : Word) (t : Bool) → p x ≡ t → (position_or_len p xs ≡ length xs → list_any p xs ≡ false)
    → cond (not t) (1 + position_or_len p xs) 0 ≡ suc (length xs) → (t || list_any p xs) ≡ false
any-at p x xs true e later none = absurd (omega (arith, none))
any-at p x xs false e later none = later (omega (arith, none))

pub none_passes : (p : ℕ → Bool) (xs : Word) → position_or_len p xs ≡ length xs → list_any p xs ≡ false
none_passes p [] none = refl
none_passes p (x ∷ xs) none = any-at p x xs (p x) refl (none_passes p xs) none

some-at : (p : ℕ → Bool) (x : ℕ) (xs : Word) (t : Bool) → p x ≡ t → (position_or_len p xs < length xs → list_any p xs ≡ true)
    → cond (not t) (1 + position_or_len p xs) 0 < suc (length xs) → (t || list_any p xs) ≡ true
some-at p x xs true e later some = refl
some-at p x xs false e later some = later (omega (arith, some))

pub some_passes : (p : ℕ → Bool) (xs : Word) → position_or_len p xs < length xs → list_any p xs ≡ true
some_passes p [] some = absurd (omega (arith, some))
some_passes p (x ∷ xs) some = some-at p x xs (p x) refl (some_passes p xs) some

pub no_exponent : (text : Word) (place : ℕ) → place ≡ position_or_len is_exponent_letter text → place ≡ length text
    → (has_exponent_form text ≡ true) × (pos 0 ≡ near_exponent (after_first is_exponent_letter text))
no_exponent text place at all =
    let none : list_any is_exponent_letter text ≡ false = none_passes is_exponent_letter text (sym at ∙ all) in
    let rest : after_first is_exponent_letter text ≡ [] = drop_all (position_or_len is_exponent_letter text + 1) text (omega (arith, at, all)) in
    (ap (λ t. not t || is_digits (unsigned (after_first is_exponent_letter text))) none, sym (ap near_exponent rest))

pub bad_exponent : (text power : Word) (place : ℕ) → place ≡ position_or_len is_exponent_letter text → place ≢ length text → power ≡ drop (place + 1) text
    → is_digits (unsigned power) ≡ false → has_exponent_form text ≡ false
bad_exponent text power place at before is bad =
    let within : position_or_len is_exponent_letter text ≤ length text = prefix_len-le-length (λ b. not (is_exponent_letter b)) text in
    let less : position_or_len is_exponent_letter text < length text = omega (arith, within, before, at) in
    let same : power ≡ after_first is_exponent_letter text = is ∙ ap (λ n. drop (n + 1) text) at in
    ap (λ t. not t || is_digits (unsigned (after_first is_exponent_letter text))) (some_passes is_exponent_letter text less)
    ∙ ap (λ w. is_digits (unsigned w)) (sym same) ∙ bad

-- ---- digits before and after a point

pub grown : (before text : Word) (i b d : ℕ) → i < length text → b ≡ get_or text i 0 → d ≡ b - 48 → is_digit b ≡ true
    → (before ++ take i text) ++ (48 + d) ∷ [] ≡ before ++ take (i + 1) text
grown before text i b d less at is digit =
    let low : 48 ≤ b = grind (arith, nat_tests, digit) in
    let same : 48 + d ≡ get_or text i 0 = omega (arith, low, is, at) in
    append_assoc before (take i text) ((48 + d) ∷ []) ∙ ap (λ x. before ++ (take i text ++ x ∷ [])) same ∙ ap (λ t. before ++ t) (sym (take_more text i 0 less))

pub if_some_then : {A : Type 0} {P Q : A → Type 0} (r : Option A) → IfSome r P → ((x : A) → P x → Q x) → IfSome r Q
if_some_then None is then = is
if_some_then (Some x) is then = then x is

pub around : (text : Word) (point v z s : ℕ) → point ≡ position_or_len is_point text → IsCounted (take point text ++ drop (point + 1) text) v z s
    → (point ≡ 0 → 0 < length (drop (point + 1) text)) → (is_digits (digits_in text) ≡ true) × IsCounted (digits_in text) v z s
around text point v z s at is behind =
    let within : position_or_len is_point text ≤ length text = prefix_len-le-length (λ b. not (is_point b)) text in
    let some : 0 < length (take point text) + length (drop (point + 1) text) =
    ⊎_elim (λ more. omega (arith, more, length-take point text, within, at)) (λ none. omega (arith, behind (omega (arith, none)))) (cases_lt 0 point) in
    let same : take point text ++ drop (point + 1) text ≡ digits_in text = ap (λ n. take n text ++ drop (n + 1) text) at in
    let P : Word → Type 0 = λ ds. (is_digits ds ≡ true) × IsCounted ds v z s in
    let more : 0 < length (take point text ++ drop (point + 1) text) = omega (arith, length-append (take point text) (drop (point + 1) text), some) in
    subst P same (ap (λ t. t && list_all is_digit (take point text ++ drop (point + 1) text)) (lt-ltb _ _ more) ∙ is.all, is)

pub above_zero : (n : ℕ) → false ≡ eqb n 0 → 0 < n
above_zero n e = grind (arith, nat_tests)

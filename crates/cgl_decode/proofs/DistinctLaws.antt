-- Names that stand once, and sums over them.
use Rattle.std.proofs.Common.{◌≡◌, refl, sym, ap, ap₂, ◌∙◌, arith, ℕ, ◌+◌, ◌≤◌, Bool, true, false, cond, not, ◌&&◌, ◌||◌, List, [], ◌∷◌, ◌++◌, length, length-append, map, filter, filter_map, flat_map, sum_by, bytes_eq, Option, Some, None}
use Rattle.std.specs.List.{cons_option}
use Rattle.std.proofs.lemmas.Bool.{and_parts}
use Rattle.std.proofs.lemmas.List.Sums.{sum_by-cons, sum_by-le-sum_by}
use Rattle.std.proofs.lemmas.Slice.Eq.{bytes_eq-Decides}
use Rattle.cgl_num.specs.NumberText.{Word}
use Rattle.cgl_text.specs.Text.{is_one_of}
use Rattle.cgl_model.specs.Valid.{AreDistinct}
use Rattle.cgl_decode.specs.Records.{Record, field}
use Rattle.cgl_decode.specs.Sections.{is_marker, names_column, entry_pairs, distinct}

pub equal_words : (a b : Word) → bytes_eq a b ≡ true → a ≡ b
equal_words a b same = (bytes_eq-Decides a b).0 same

pub same_word : (a b : Word) → a ≡ b → bytes_eq a b ≡ true
same_word a b same = (bytes_eq-Decides a b).1 same

flip_case : (a b : Word) → bytes_eq a b ≡ false → (c : Bool) → bytes_eq b a ≡ c → c ≡ false
flip_case a b differ true is = sym (same_word a b (sym (equal_words b a is))) ∙ differ
flip_case a b differ false is = refl

pub flip_differ : (a b : Word) → bytes_eq a b ≡ false → bytes_eq b a ≡ false
flip_differ a b differ = flip_case a b differ (bytes_eq b a) refl

pub or_false_parts : (a b : Bool) → (a || b) ≡ false → (a ≡ false) × (b ≡ false)
or_false_parts true b neither = cc
or_false_parts false b neither = (refl, neither)

-- each word once

kept_case : (p : Word → Bool) (word first : Word) (names : List Word) → bytes_eq word first ≡ false → is_one_of (filter p names) word ≡ false → (b : Bool) → is_one_of (cond b (first ∷ filter p names) (filter p names)) word ≡ false
kept_case p word first names differ rest true = ap₂ (λ a b. a || b) differ rest
kept_case p word first names differ rest false = rest

not_in_filter : (p : Word → Bool) (names : List Word) (word : Word) → is_one_of names word ≡ false → is_one_of (filter p names) word ≡ false
not_in_filter p [] word none = refl
not_in_filter p (first ∷ names) word none =
    let parts = or_false_parts (bytes_eq word first) (is_one_of names word) none in
    kept_case p word first names parts.0 (not_in_filter p names word parts.1) (p first)

removed_case : (word first : Word) (names : List Word) → is_one_of (filter (λ other. not (bytes_eq other word)) names) word ≡ false → (b : Bool) → bytes_eq first word ≡ b
    → is_one_of (cond (not b) (first ∷ filter (λ other. not (bytes_eq other word)) names) (filter (λ other. not (bytes_eq other word)) names)) word ≡ false
removed_case word first names rest true is = rest
removed_case word first names rest false is = ap₂ (λ a b. a || b) (flip_differ first word is) rest

removed : (names : List Word) (word : Word) → is_one_of (filter (λ other. not (bytes_eq other word)) names) word ≡ false
removed [] word = refl
removed (first ∷ names) word = removed_case word first names (removed names word) (bytes_eq first word) refl

filter_case : (p : Word → Bool) (first : Word) (names : List Word) → is_one_of names first ≡ false → AreDistinct (filter p names) → (b : Bool) → AreDistinct (cond b (first ∷ filter p names) (filter p names))
filter_case p first names none rest true = (ap not (not_in_filter p names first none), rest)
filter_case p first names none rest false = rest

pub not_false : (b : Bool) → not b ≡ true → b ≡ false
not_false true e = cc
not_false false e = refl

filter_distinct : (p : Word → Bool) (names : List Word) → AreDistinct names → AreDistinct (filter p names)
filter_distinct p [] all = tt
filter_distinct p (first ∷ names) all = filter_case p first names (not_false (is_one_of names first) all.0) (filter_distinct p names all.1) (p first)

pub are_distinct : (words : List Word) → AreDistinct (distinct words)
are_distinct [] = tt
are_distinct (word ∷ words) = (ap not (removed (distinct words) word), filter_distinct (λ other. not (bytes_eq other word)) (distinct words) (are_distinct words))

any_push : (name first : Word) (names : List Word) → is_one_of (names ++ name ∷ []) first ≡ (is_one_of names first || bytes_eq first name)
any_push name first [] = or_end (bytes_eq first name)
  where
    or_end : (b : Bool) → (b || false) ≡ b
    or_end true = refl
    or_end false = refl
any_push name first (other ∷ names) = ap (λ b. bytes_eq first other || b) (any_push name first names) ∙ or_assoc (bytes_eq first other) (is_one_of names first) (bytes_eq first name)
  where
    or_assoc : (a b c : Bool) → (a || (b || c)) ≡ ((a || b) || c)
    or_assoc true b c = refl
    or_assoc false b c = refl

-- a new name at the end
pub distinct_push : (names : List Word) (name : Word) → AreDistinct names → is_one_of names name ≡ false → AreDistinct (names ++ name ∷ [])
distinct_push [] name all new = (refl, tt)
distinct_push (first ∷ names) name all new =
    let parts = or_false_parts (bytes_eq name first) (is_one_of names name) new in
    (ap not (any_push name first names ∙ ap₂ (λ a b. a || b) (not_false (is_one_of names first) all.0) (flip_differ name first parts.0)), distinct_push names name all.1 parts.1)

-- sums

pub sum_by-map : {X Y : Type 0} (f : Y → ℕ) (g : X → Y) (xs : List X) → sum_by f (map g xs) ≡ sum_by (λ x. f (g x)) xs
sum_by-map f g [] = refl
sum_by-map f g (x ∷ xs) = sum_by-cons f (g x) (map g xs) ∙ ap (λ n. f (g x) + n) (sum_by-map f g xs) ∙ sym (sum_by-cons (λ x. f (g x)) x xs)

sum_by-two : {X : Type 0} (f g : X → ℕ) (xs : List X) → sum_by (λ x. f x + g x) xs ≡ sum_by f xs + sum_by g xs
sum_by-two f g [] = refl
sum_by-two f g (x ∷ xs) = omega (arith, sum_by-cons (λ x. f x + g x) x xs, sum_by-cons f x xs, sum_by-cons g x xs, sum_by-two f g xs)

sum_none : {X : Type 0} (xs : List X) → sum_by (λ x. 0) xs ≡ 0
sum_none [] = refl
sum_none (x ∷ xs) = omega (arith, sum_by-cons (λ x. 0) x xs, sum_none xs)

named_case : (k : ℕ) (name : Word) (r : Record) (b : Bool) → bytes_eq name (field 0 r) ≡ false → (not b && bytes_eq name (field 0 r)) ≡ false
named_case k name r true differ = refl
named_case k name r false differ = differ

none_named : (k : ℕ) (r : Record) (names : List Word) → is_one_of names (field 0 r) ≡ false → sum_by (λ name. cond (names_column name r) k 0) names ≡ 0
none_named k r [] none = refl
none_named k r (name ∷ names) none =
    let parts = or_false_parts (bytes_eq (field 0 r) name) (is_one_of names (field 0 r)) none in
    sum_by-cons (λ name. cond (names_column name r) k 0) name names
    ∙ ap₂ (λ a b. cond a k 0 + b) (named_case k name r (is_marker r) (flip_differ (field 0 r) name parts.0)) (none_named k r names parts.1)

once_case : (k : ℕ) (r : Record) (name : Word) (names : List Word) → is_one_of names name ≡ false → sum_by (λ name. cond (names_column name r) k 0) names ≤ k
    → (b : Bool) → names_column name r ≡ b → cond b k 0 + sum_by (λ name. cond (names_column name r) k 0) names ≤ k
once_case k r name names none rest true is =
    let same : name ≡ field 0 r = equal_words name (field 0 r) (and_parts (not (is_marker r)) (bytes_eq name (field 0 r)) is).1 in
    let others = none_named k r names (ap (is_one_of names) (sym same) ∙ none) in
    omega (arith, others)
once_case k r name names none rest false is = omega (arith, rest)

at_most_once : (k : ℕ) (r : Record) (names : List Word) → AreDistinct names → sum_by (λ name. cond (names_column name r) k 0) names ≤ k
at_most_once k r [] all = omega arith
at_most_once k r (name ∷ names) all =
    let here = once_case k r name names (not_false (is_one_of names name) all.0) (at_most_once k r names all.1) (names_column name r) refl in
    omega (arith, here, sum_by-cons (λ name. cond (names_column name r) k 0) name names)

-- how many pairs the records of a column have
abbrev pub weight : Word → List Record → ℕ
weight name records = length (flat_map entry_pairs (filter (names_column name) records))

weight_case : (r : Record) (others : List Record) (b : Bool) → length (flat_map entry_pairs (cond b (r ∷ others) others)) ≡ cond b (length (entry_pairs r)) 0 + length (flat_map entry_pairs others)
weight_case r others true = length-append (entry_pairs r) (flat_map entry_pairs others)
weight_case r others false = omega arith

pub weights : (names : List Word) → AreDistinct names → (records : List Record) → sum_by (λ name. weight name records) names ≤ length (flat_map entry_pairs records)
weights names all [] = omega (arith, sum_none names)
weights names all (r ∷ records) =
    let own : Word → ℕ = λ name. cond (names_column name r) (length (entry_pairs r)) 0 in
    let split = sum_by-le-sum_by (λ name. weight name (r ∷ records)) (λ name. own name + weight name records) names (λ name. let e = weight_case r (filter (names_column name) records) (names_column name r) in omega (arith, e)) in
    omega (arith, split, sum_by-two own (λ name. weight name records) names, at_most_once (length (entry_pairs r)) r names all, weights names all records, length-append (entry_pairs r) (flat_map entry_pairs records))

one_at_most : {Y : Type 0} (o : Option Y) (ys : List Y) (n : ℕ) → length ys ≤ n → length (cons_option o ys) ≤ n + 1
one_at_most None ys n le = omega (arith, le)
one_at_most (Some y) ys n le = omega (arith, le)

pub length-filter_map : {X Y : Type 0} (h : X → Option Y) (xs : List X) → length (filter_map h xs) ≤ length xs
length-filter_map h [] = omega arith
length-filter_map h (x ∷ xs) = let e = one_at_most (h x) (filter_map h xs) (length xs) (length-filter_map h xs) in omega (arith, e)

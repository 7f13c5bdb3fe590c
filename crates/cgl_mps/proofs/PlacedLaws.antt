-- A list with something for each of some names, which stand once, at the place of one of them.
use Rattle.std.proofs.Common.{◌≡◌, refl, sym, ap, ap₂, ◌∙◌, subst, arith, add-zero, zero-add, ℕ, zero, suc, ◌+◌, nat_lt, Bool, true, false, cond, not, ◌||◌, List, [], ◌∷◌, ◌++◌, length, map, filter, get_or, bytes_eq, position, Option, Some, None, is_some, option_map}
use Rattle.std.specs.Prelude.{slice_get, slice_set}
use Rattle.std.specs.List.{position_from, position_or_len, AllByRecursion}
use Rattle.std.proofs.lemmas.List.Folds.{list_any-append}
use Rattle.std.proofs.lemmas.List.Quantifiers.{position-Some}
use Rattle.std.proofs.lemmas.Iterator.Adapters.{position_from-zero}
use Rattle.std.proofs.lemmas.Option.{slice_get-get_or, slice_get-map}
use Rattle.cgl_num.specs.NumberText.{Word}
use Rattle.cgl_text.specs.Text.{is_one_of}
use Rattle.cgl_text.proofs.NameLaws.{is_found}
use Rattle.cgl_model.specs.Valid.{AreDistinct}
use Rattle.cgl_decode.specs.Sections.{distinct}
use Rattle.cgl_decode.proofs.CountLaws.{distinct-push}
use Rattle.cgl_decode.proofs.DistinctLaws.{are_distinct, equal_words, same_word, flip_differ, or_false_parts, not_false}
use Rattle.cgl_mps.specs.Tables.{StandOnce}

-- names that stand once

pub once_none : StandOnce []
once_none = refl

pub once_more : (names : List Word) (name : Word) → StandOnce names → is_one_of names name ≡ false → StandOnce (names ++ name ∷ [])
once_more names name once new = distinct-push names name ∙ ap₂ (λ l b. l ++ cond b [] (name ∷ [])) once new

pub are_once : (names : List Word) → StandOnce names → AreDistinct names
are_once names once = subst AreDistinct once (are_distinct names)

without : (word : Word) (names : List Word) → is_one_of names word ≡ false → filter (λ other. not (bytes_eq other word)) names ≡ names
without word [] absent = refl
without word (first ∷ names) absent =
    let parts = or_false_parts (bytes_eq word first) (is_one_of names word) absent in
    ap (λ b. cond (not b) (first ∷ filter (λ other. not (bytes_eq other word)) names) (filter (λ other. not (bytes_eq other word)) names)) (flip_differ word first parts.0)
    ∙ ap (λ l. first ∷ l) (without word names parts.1)

pub stand_once : (names : List Word) → AreDistinct names → StandOnce names
stand_once [] once = refl
stand_once (name ∷ names) once =
    ap (λ l. name ∷ filter (λ other. not (bytes_eq other name)) l) (stand_once names once.1)
    ∙ ap (λ l. name ∷ l) (without name names (not_false (is_one_of names name) once.0))

pub once_distinct : (words : List Word) → StandOnce (distinct words)
once_distinct words = stand_once (distinct words) (are_distinct words)

-- the place of a name

place_case : (b : Bool) (n place : ℕ) (other : Option ℕ) → other ≡ None → cond b (Some n) other ≡ Some place → n ≡ place
place_case true n place other is found = cc
place_case false n place other is found = cc

pub at_place : (names : List Word) (name : Word) (place : ℕ) → position (bytes_eq name) names ≡ Some place → position_or_len (bytes_eq name) names ≡ place
at_place names name place found = place_case (nat_lt (position_or_len (bytes_eq name) names) (length names)) (position_or_len (bytes_eq name) names) place None refl found

pub is_among : (names : List Word) (name : Word) (place : ℕ) → position (bytes_eq name) names ≡ Some place → is_one_of names name ≡ true
is_among names name place found = sym (is_found (bytes_eq name) names) ∙ ap is_some found

pub no_place : (names : List Word) (name : Word) → position (bytes_eq name) names ≡ None → is_one_of names name ≡ true → ⊥
no_place names name none among =
    let e : false ≡ true = sym (ap is_some none) ∙ is_found (bytes_eq name) names ∙ among in cc

-- the name itself stands there
pub name_at : (names : List Word) (name : Word) (place : ℕ) → position (bytes_eq name) names ≡ Some place → slice_get names place ≡ Some name
name_at names name place found =
    let here = position-Some (bytes_eq name) names place name found in
    slice_get-get_or names place name here.0 ∙ ap Some (sym (equal_words name (get_or names place name) here.1))

-- a name that stands at a place is found there

among_case : (b rest : Bool) → rest ≡ true → (b || rest) ≡ true
among_case true rest is = refl
among_case false rest is = is

is_at : (names : List Word) (name : Word) (place : ℕ) → slice_get names place ≡ Some name → is_one_of names name ≡ true
is_at [] name place is = cc
is_at (first ∷ names) name zero is = let same : first ≡ name = cc in ap (λ b. b || is_one_of names name) (same_word name first (sym same))
is_at (first ∷ names) name (suc place) is = among_case (bytes_eq name first) (is_one_of names name) (is_at names name place is)

other_first : (first name : Word) (names : List Word) → is_one_of names first ≡ false → is_one_of names name ≡ true → (b : Bool) → bytes_eq name first ≡ b → b ≡ false
other_first first name names new among true same = sym among ∙ ap (is_one_of names) (equal_words name first same) ∙ new
other_first first name names new among false differ = refl

found_from : (names : List Word) (name : Word) (place n m : ℕ) → AreDistinct names → slice_get names place ≡ Some name → n + place ≡ m → position_from (bytes_eq name) n names ≡ Some m
found_from [] name place n m once is sum = cc
found_from (first ∷ names) name zero n m once is sum =
    let same : first ≡ name = cc in
    ap (λ b. cond b (Some n) (position_from (bytes_eq name) (n + 1) names)) (same_word name first (sym same)) ∙ ap Some (sym (add-zero n) ∙ sum)
found_from (first ∷ names) name (suc place) n m once is sum =
    ap (λ b. cond b (Some n) (position_from (bytes_eq name) (n + 1) names)) (other_first first name names (not_false (is_one_of names first) once.0) (is_at names name place is) (bytes_eq name first) refl)
    ∙ found_from names name place (n + 1) m once.1 is (omega (arith, sum))

pub found_at : (names : List Word) (name : Word) (place : ℕ) → StandOnce names → slice_get names place ≡ Some name → position (bytes_eq name) names ≡ Some place
found_at names name place once is = position_from-zero (bytes_eq name) names ∙ found_from names name place 0 place (are_once names once) is (zero-add place)

-- what is made of it
pub made_at : {V : Type 0} (make : Word → V) (names : List Word) (name : Word) (place : ℕ) → position (bytes_eq name) names ≡ Some place → slice_get (map make names) place ≡ Some (make name)
made_at make names name place found = slice_get-map make names place ∙ ap (option_map make) (name_at names name place found)

-- another thing for one of the names, and the same for the others

others_same : {V : Type 0} (old new : Word → V) (name : Word) (names : List Word) → is_one_of names name ≡ false → ((other : Word) → bytes_eq name other ≡ false → new other ≡ old other)
    → map old names ≡ map new names
others_same old new name [] none same = refl
others_same old new name (first ∷ names) none same =
    let parts = or_false_parts (bytes_eq name first) (is_one_of names name) none in
    ap₂ (λ v vs. v ∷ vs) (sym (same first parts.0)) (others_same old new name names parts.1 same)

set_end : {X : Type 0} (x y : X) (xs : List X) (k n : ℕ) → n ≡ suc k → slice_set (x ∷ xs) n y ≡ x ∷ slice_set xs k y
set_end x y xs k n is = ap (λ i. slice_set (x ∷ xs) i y) is

set_case : {V : Type 0} (old new : Word → V) (name first : Word) (names : List Word)
    → ((other : Word) → bytes_eq name other ≡ false → new other ≡ old other)
    → is_one_of names first ≡ false
    → (is_one_of names name ≡ true → slice_set (map old names) (position_or_len (bytes_eq name) names) (new name) ≡ map new names)
    → (b : Bool) → bytes_eq name first ≡ b → (b || is_one_of names name) ≡ true
    → slice_set (old first ∷ map old names) (cond (not b) (1 + position_or_len (bytes_eq name) names) 0) (new name) ≡ new first ∷ map new names
set_case old new name first names others once later true same among =
    let is = equal_words name first same in
    ap₂ (λ v vs. v ∷ vs) (ap new is) (others_same old new name names (ap (is_one_of names) is ∙ once) others)
set_case old new name first names others once later false differ among =
    set_end (old first) (new name) (map old names) (position_or_len (bytes_eq name) names) (1 + position_or_len (bytes_eq name) names) (omega arith)
    ∙ ap₂ (λ v vs. v ∷ vs) (sym (others first differ)) (later among)

set_there : {V : Type 0} (old new : Word → V) (name : Word) (names : List Word) → ((other : Word) → bytes_eq name other ≡ false → new other ≡ old other) → AreDistinct names → is_one_of names name ≡ true
    → slice_set (map old names) (position_or_len (bytes_eq name) names) (new name) ≡ map new names
set_there old new name [] others once among = cc
set_there old new name (first ∷ names) others once among =
    set_case old new name first names others (not_false (is_one_of names first) once.0) (set_there old new name names others once.1) (bytes_eq name first) refl among

pub set_at : {V : Type 0} (old new : Word → V) (names : List Word) (name : Word) (place : ℕ) → StandOnce names → position (bytes_eq name) names ≡ Some place
    → ((other : Word) → bytes_eq name other ≡ false → new other ≡ old other)
    → slice_set (map old names) place (new name) ≡ map new names
set_at old new names name place once found others =
    ap (λ i. slice_set (map old names) i (new name)) (sym (at_place names name place found))
    ∙ set_there old new name names others (are_once names once) (is_among names name place found)

-- one name more

pub still_among : (names : List Word) (name word : Word) → is_one_of names word ≡ true → is_one_of (names ++ name ∷ []) word ≡ true
still_among names name word among = list_any-append (bytes_eq word) names (name ∷ []) ∙ ap (λ b. b || (bytes_eq word name || false)) among

-- a list of what passes

pub all_joined : {X : Type 0} (P : X → Type 0) (xs ys : List X) → AllByRecursion P xs → AllByRecursion P ys → AllByRecursion P (xs ++ ys)
all_joined P [] ys these those = those
all_joined P (x ∷ xs) ys these those = (these.0, all_joined P xs ys these.1 those)

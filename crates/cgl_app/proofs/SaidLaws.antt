-- A text that is put in two parts, one behind the other.
use Rattle.std.proofs.Common.{Result, Ok, Err, OnOk, OnErr, ◌≡◌, ◌∙◌, ℕ, ◌+◌, ◌<◌, ◌≤◌, List, [], ◌++◌, take, drop, flat_map, get_or, length, min, append-nil, arith, Option, Some, None, refl, sym, ap, subst}
use Rattle.std.proofs.Math.Seq.{take-append-add, take-length}
use Rattle.std.proofs.lemmas.List.{append_assoc, take-append-drop, take-append-le, take_all, take_min}
use Rattle.cgl_text.specs.GrowthLaws.{flat_map_append, flat_map_more}
use Rattle.cgl_outside.specs.Says.{Says, Whole, Part}
use Rattle.cgl_outside.specs.Shelf.{Rose}
use Rattle.cgl_outside.specs.Sink.{with_put}
use Rattle.cgl_app.specs.Said.{IsBroken, IsSaid}

put_twice : (told : Option (List ℕ)) (a b : List ℕ) → with_put (with_put told a) b ≡ with_put told (a ++ b)
unfolding with_put
put_twice None a b = refl
put_twice (Some old) a b = ap (λ x. Some x) (append_assoc old a b)

-- a first part of the first is one of both
part_front : (a b : List ℕ) (kept : ℕ) → take kept a ≡ take (min kept (length a)) (a ++ b)
part_front a b kept = sym (take_min kept a) ∙ sym (take-append-le (min kept (length a)) a b (search arith))

pub says_all : (told now : Option (List ℕ)) (faults count : ℕ) (text : List ℕ) → IsSaid told now faults count text → Says told now faults count text
says_all told now faults count text s = Whole s.written s.faults_are

pub says_part : (told now : Option (List ℕ)) (faults count : ℕ) (text : List ℕ) → IsBroken told now faults count text → Says told now faults count text
says_part told now faults count text b = Part b.kept b.written b.rose

-- a text that was put in pieces until one failed
pub broken_of : (told now : Option (List ℕ)) (faults count : ℕ) (text : List ℕ) → Says told now faults count text → Rose faults count → IsBroken told now faults count text
broken_of told now faults count text (Whole written same) rose = record { kept = length text; written = written ∙ ap (with_put told) (sym (take-length text)); rose = rose }
broken_of told now faults count text (Part kept written rose) _ = record { kept = kept; written = written; rose = rose }

pub broken_first : (told now : Option (List ℕ)) (faults count : ℕ) (a b : List ℕ) → IsBroken told now faults count a → IsBroken told now faults count (a ++ b)
broken_first told now faults count a b k = record { kept = min k.kept (length a); written = k.written ∙ ap (with_put told) (part_front a b k.kept); rose = k.rose }

pub said_both : (told mid now : Option (List ℕ)) (faults same count : ℕ) (a b : List ℕ) → IsSaid told mid faults same a → IsSaid mid now same count b → IsSaid told now faults count (a ++ b)
said_both told mid now faults same count a b s t =
    record { written = t.written ∙ ap (λ x. with_put x b) s.written ∙ put_twice told a b; faults_are = t.faults_are ∙ s.faults_are }

pub broken_second : (told mid now : Option (List ℕ)) (faults same count : ℕ) (a b : List ℕ) → IsSaid told mid faults same a → IsBroken mid now same count b → IsBroken told now faults count (a ++ b)
broken_second told mid now faults same count a b s k = record {
  kept = length a + k.kept;
  written = k.written ∙ ap (λ x. with_put x (take k.kept b)) s.written ∙ put_twice told a (take k.kept b) ∙ ap (with_put told) (sym (take-append-add a b k.kept));
  rose = rw s.faults_are at k.rose;
}

-- ---- the texts of items, one behind another

pub nothing_said : (told : Option (List ℕ)) (faults : ℕ) → IsSaid told told faults faults []
unfolding with_put
nothing_said None faults = record { written = refl; faults_are = refl }
nothing_said (Some old) faults = record { written = ap (λ x. Some x) (sym (append-nil old)); faults_are = refl }

pub items_more : {X : Type 0} (f : X → List ℕ) (xs : List X) (i : ℕ) (d : X) (told mid now : Option (List ℕ)) (faults same count : ℕ) → i < length xs
    → IsSaid told mid faults same (flat_map f (take i xs)) → IsSaid mid now same count (f (get_or xs i d)) → IsSaid told now faults count (flat_map f (take (i + 1) xs))
items_more f xs i d told mid now faults same count within s t =
    let P : List ℕ → Type 0 = λ x. IsSaid told now faults count x in
    subst P (sym (flat_map_more f xs i d within)) (said_both told mid now faults same count _ _ s t)

pub items_broken : {X : Type 0} (f : X → List ℕ) (xs : List X) (i : ℕ) (d : X) (told mid now : Option (List ℕ)) (faults same count : ℕ) → i < length xs
    → IsSaid told mid faults same (flat_map f (take i xs)) → IsBroken mid now same count (f (get_or xs i d)) → IsBroken told now faults count (flat_map f xs)
items_broken f xs i d told mid now faults same count within s k =
    let P : List ℕ → Type 0 = λ x. IsBroken told now faults count x in
    let front = subst P (sym (flat_map_more f xs i d within)) (broken_second told mid now faults same count _ _ s k) in
    subst P (sym (flat_map_append f (take (i + 1) xs) (drop (i + 1) xs)) ∙ ap (flat_map f) (take-append-drop (i + 1) xs))
    (broken_first told now faults count (flat_map f (take (i + 1) xs)) (flat_map f (drop (i + 1) xs)) front)

pub items_said : {X : Type 0} (f : X → List ℕ) (xs : List X) (i : ℕ) (told now : Option (List ℕ)) (faults count : ℕ) → length xs ≤ i
    → IsSaid told now faults count (flat_map f (take i xs)) → IsSaid told now faults count (flat_map f xs)
items_said f xs i told now faults count past s =
    let P : List ℕ → Type 0 = λ x. IsSaid told now faults count x in subst P (ap (flat_map f) (take_all i xs past)) s

-- ---- by an answer

pub then_said : {A E : Type 0} (r : Result A E) (told mid now : Option (List ℕ)) (faults same count : ℕ) (a b : List ℕ) → IsSaid told mid faults same a
    → OnOk r (IsSaid mid now same count b) → OnOk r (IsSaid told now faults count (a ++ b))
then_said (Ok x) told mid now faults same count a b s t = said_both told mid now faults same count a b s t
then_said (Err x) told mid now faults same count a b s t = t

pub then_broken : {A E : Type 0} (r : Result A E) (told mid now : Option (List ℕ)) (faults same count : ℕ) (a b : List ℕ) → IsSaid told mid faults same a
    → OnErr r (IsBroken mid now same count b) → OnErr r (IsBroken told now faults count (a ++ b))
then_broken (Ok x) told mid now faults same count a b s k = k
then_broken (Err x) told mid now faults same count a b s k = broken_second told mid now faults same count a b s k

-- Loops that push the image of each element of a list.
use Rattle.std.proofs.Common.{◌≡◌, sym, ap, ◌∙◌, ℕ, ◌+◌, ◌<◌, ◌≤◌, Bool, true, false, List, [], ◌∷◌, ◌++◌, map, take, get_or, length}
use Rattle.std.specs.List.{list_any}
use Rattle.std.proofs.lemmas.List.{map_more, take_all}
use Rattle.std.proofs.lemmas.List.Folds.{list_any_at}
use Rattle.std.proofs.lemmas.Bool.{false_from_ne_true}

pub mapped_more : {X Y : Type 0} (f : X → Y) (xs : List X) (i : ℕ) (x : X) (y : Y) (old new : List Y)
    → i < length xs → x ≡ get_or xs i x → y ≡ f x → old ≡ map f (take i xs) → new ≡ old ++ y ∷ [] → new ≡ map f (take (i + 1) xs)
mapped_more f xs i x y old new inside is image before push =
    let last : f (get_or xs i x) ≡ y = ap f (sym is) ∙ sym image in
    let all : map f (take (i + 1) xs) ≡ map f (take i xs) ++ f (get_or xs i x) ∷ [] = map_more f xs i x inside in
    cc

pub mapped_all : {X Y : Type 0} (f : X → Y) (xs : List X) (i : ℕ) (made : List Y) → length xs ≤ i → made ≡ map f (take i xs) → made ≡ map f xs
mapped_all f xs i made end is = is ∙ ap (map f) (take_all i xs end)

pub none_at : {X : Type 0} (test : X → Bool) (xs : List X) (i : ℕ) (x : X) → i < length xs → x ≡ get_or xs i x → list_any test xs ≡ false → test x ≡ false
none_at test xs i x inside is none =
    false_from_ne_true (test x) (λ here. let some : list_any test xs ≡ true = list_any_at test xs i x inside (ap test (sym is) ∙ here) in cc)

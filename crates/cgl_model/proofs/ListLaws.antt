-- Lists, their loops and their elements.
use Rattle.std.proofs.Common.{◌≡◌, ℕ, ◌+◌, ◌≤◌, ◌<◌, ◌∙◌, ap, refl, subst, sym, List, length, get_or, take}
use Rattle.std.specs.Prelude.{Some, None, slice_get}
use Rattle.std.specs.List.{All}
use Rattle.std.proofs.lemmas.List.{take_all}
use Rattle.std.proofs.lemmas.List.Elements.{All-more}
use Rattle.std.proofs.lemmas.Option.{slice_get_past, slice_get_read}

-- one more item
pub more_hold : {X : Type 0} (P : X → Type 0) (xs : List X) (i : ℕ) (x : X) → i < length xs → x ≡ get_or xs i x → All P (take i xs) → P x → All P (take (i + 1) xs)
more_hold P xs i x h e before here = All-more P xs i x h before (subst P e here)

-- past the last item
pub all_hold : {X : Type 0} (P : X → Type 0) (xs : List X) (i : ℕ) → length xs ≤ i → All P (take i xs) → All P xs
all_hold P xs i h before = let F : List _ → Type 0 = All P in subst F (take_all i xs h) before

-- the element that was read from `ys`, which is `xs`
pub element_here : {X : Type 0} (ys xs : List X) (i : ℕ) (x y : X) → ys ≡ xs → i < length ys → x ≡ get_or ys i x → x ≡ y → slice_get xs i ≡ Some y
element_here ys xs i x y e h is f = ap (λ l. slice_get l i) (sym e) ∙ slice_get_read ys (length ys) i x refl h is ∙ ap Some f

pub none_past : {X : Type 0} (ys xs : List X) (i : ℕ) → ys ≡ xs → length ys ≤ i → slice_get xs i ≡ None
none_past ys xs i e h = ap (λ l. slice_get l i) (sym e) ∙ slice_get_past ys i h

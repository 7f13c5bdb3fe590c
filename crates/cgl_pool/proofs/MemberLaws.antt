-- Members of lists, and of what a filter keeps.
use Rattle.std.proofs.Common.{◌≡◌, inl, inr, ⊎_elim, List, [], ◌∷◌, ◌++◌, Option, Some, None, refl, sym, ap, ◌∙◌, subst}
use Rattle.std.specs.Prelude.{filter_map, option_to_list}
use Rattle.std.specs.List.{cons_option}
use Rattle.std.proofs.lemmas.List.Elements.{filter_map-append}
use Rattle.cgl_pool.specs.Listed.{IsIn}

pub by_option : {A P : Type 0} (o : Option A) → (o ≡ None → P) → ((x : A) → o ≡ Some x → P) → P
by_option None f g = f refl
by_option (Some x) f g = g x refl

pub in_filter_map : {A B : Type 0} (f : A → Option B) (xs : List A) (y : B) → IsIn y (filter_map f xs) → (x : A) × IsIn x xs × (f x ≡ Some y)
in_filter_map f [] y is = absurd is
in_filter_map f (x ∷ xs) y is = by_option (f x)
    (λ none.
    let more = in_filter_map f xs y (subst (IsIn y) (ap (λ o. cons_option o (filter_map f xs)) none) is) in
    (more.0, inr more.1, more.2))
    (λ z some.
    let here : IsIn y (z ∷ filter_map f xs) = subst (IsIn y) (ap (λ o. cons_option o (filter_map f xs)) some) is in
    ⊎_elim
    (λ e. (x, inl refl, some ∙ ap Some (sym e)))
    (λ rest.
    let more = in_filter_map f xs y rest in
    (more.0, inr more.1, more.2))
    here)

pub filter_map_in : {A B : Type 0} (f : A → Option B) (xs : List A) (x : A) (y : B) → IsIn x xs → f x ≡ Some y → IsIn y (filter_map f xs)
filter_map_in f [] x y is e = absurd is
filter_map_in f (z ∷ xs) x y is e = ⊎_elim
    (λ s.
    let here : f z ≡ Some y = ap f (sym s) ∙ e in
    subst (IsIn y) (sym (ap (λ o. cons_option o (filter_map f xs)) here)) (inl refl))
    (λ rest.
    let later = filter_map_in f xs x y rest e in
    by_option (f z)
    (λ none. subst (IsIn y) (sym (ap (λ o. cons_option o (filter_map f xs)) none)) later)
    (λ w some. subst (IsIn y) (sym (ap (λ o. cons_option o (filter_map f xs)) some)) (inr later)))
    is

pub same_filtered : {A B : Type 0} (f : A → Option B) (a b : List A) → ((x : A) → IsIn x a → IsIn x b) → (y : B) → IsIn y (filter_map f a) → IsIn y (filter_map f b)
same_filtered f a b to y is =
    let from = in_filter_map f a y is in
    filter_map_in f b from.0 y (to from.0 from.1) from.2

one : {B : Type 0} (o : Option B) → cons_option o [] ≡ option_to_list o
one None = refl
one (Some y) = refl

-- one item more
pub filtered_more : {A B : Type 0} (f : A → Option B) (xs : List A) (x : A) → filter_map f (xs ++ x ∷ []) ≡ filter_map f xs ++ option_to_list (f x)
filtered_more f xs x = filter_map-append f xs (x ∷ []) ∙ ap (λ z. filter_map f xs ++ z) (one (f x))

-- Laws of texts that grow.
use Rattle.std.proofs.Common.{◌≡◌, ℕ, List, [], ◌++◌, flat_map, sym, ap, ◌∙◌, subst, ◌+◌, ◌<◌, length, take, get_or, refl, ◌∷◌}
use Rattle.std.proofs.lemmas.List.{append_assoc, append-nil, take_more}
use Rattle.cgl_text.specs.Growth.{Grown, Grows}

pub grows_nothing : (a : Grown) → Grows [] a a
grows_nothing a = record { whole = λ e. (e, sym (append-nil a.items)) }

pub grows_then : (x y : List ℕ) (a b c : Grown) → Grows x a b → Grows y b c → Grows (x ++ y) a c
grows_then x y a b c first second = record {
  whole = λ e.
      let after = second.whole e in
      let before = first.whole after.0 in
      (before.0, after.1 ∙ ap (λ z. z ++ y) before.1 ∙ append_assoc a.items x y);
}

pub grows_as : (x y : List ℕ) (a b : Grown) → x ≡ y → Grows x a b → Grows y a b
grows_as x y a b e grows = subst (λ (z : List ℕ). Grows z a b) e grows

pub flat_map_append : {A B : Type 0} (f : A → List B) (xs ys : List A) → flat_map f (xs ++ ys) ≡ flat_map f xs ++ flat_map f ys
flat_map_append f [] ys = refl
flat_map_append f (x ∷ xs) ys = ap (λ z. f x ++ z) (flat_map_append f xs ys) ∙ sym (append_assoc (f x) (flat_map f xs) (flat_map f ys))

-- the next item of a list
pub flat_map_more : {A B : Type 0} (f : A → List B) (xs : List A) (i : ℕ) (d : A) → i < length xs → flat_map f (take (i + 1) xs) ≡ flat_map f (take i xs) ++ f (get_or xs i d)
flat_map_more f xs i d h = ap (flat_map f) (take_more xs i d h) ∙ flat_map_append f (take i xs) (get_or xs i d ∷ []) ∙ ap (λ z. flat_map f (take i xs) ++ z) (append-nil (f (get_or xs i d)))

pub no_items : {A : Type 0} (f : A → List ℕ) (a : Grown) → Grows (flat_map f []) a a
no_items f a = grows_nothing a

pub more_grows : {A : Type 0} (f : A → List ℕ) (xs : List A) (i : ℕ) (d : A) (a b c : Grown) → i < length xs → Grows (flat_map f (take i xs)) a b → Grows (f (get_or xs i d)) b c → Grows (flat_map f (take (i + 1) xs)) a c
more_grows f xs i d a b c h before here = grows_as _ _ a c (sym (flat_map_more f xs i d h)) (grows_then (flat_map f (take i xs)) (f (get_or xs i d)) a b c before here)

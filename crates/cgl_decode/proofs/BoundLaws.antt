-- Bounds act in order: what one record more changes.
use Rattle.std.proofs.Common.{◌≡◌, refl, ap, ap₂, ◌∙◌, pos, Bool, true, false, cond, ◌&&◌, ◌||◌, List, [], ◌∷◌, ◌++◌, append-nil, filter_map, Option, Some, None, unwrap_or}
use Rattle.std.specs.List.{list_any, cons_option}
use Rattle.std.proofs.lemmas.List.Elements.{filter_map-append}
use Rattle.std.proofs.lemmas.List.Folds.{list_any-append}
use Rattle.cgl_num.specs.Decimal.{Decimal}
use Rattle.cgl_num.specs.NumberText.{whole}
use Rattle.cgl_decode.specs.Reading.{setting, is_negative_upper, nothing, LowerInOrder, UpperInOrder}
use Rattle.cgl_decode.specs.Models.{last_or, upper_by, value_in}

-- the last of a list

pub last_or-push : {X : Type 0} (d : X) (xs : List X) (x : X) → last_or d (xs ++ x ∷ []) ≡ x
last_or-push d [] x = refl
last_or-push d (y ∷ xs) x = last_or-push y xs x

last_or-option : {X : Type 0} (d : X) (o : Option X) (xs : List X) → last_or d (cons_option o xs) ≡ last_or (unwrap_or o d) xs
last_or-option d None xs = refl
last_or-option d (Some x) xs = refl

pub last_or_set : {A X : Type 0} (f : A → Option X) (d : X) (x : A) (xs : List A) → last_or d (filter_map f (x ∷ xs)) ≡ last_or (unwrap_or (f x) d) (filter_map f xs)
last_or_set f d x xs = last_or-option d (f x) (filter_map f xs)

lower_cases : (below new : Bool) (l : List (Option Decimal)) (o : Option (Option Decimal))
    → last_or (cond (below || (new || false)) None (Some (whole (pos 0)))) (l ++ cons_option o []) ≡ unwrap_or o (cond (new && nothing l) None (last_or (cond below None (Some (whole (pos 0)))) l))
lower_cases below new l (Some v) = last_or-push (cond (below || (new || false)) None (Some (whole (pos 0)))) l v
lower_cases true true [] None = refl
lower_cases true false [] None = refl
lower_cases false true [] None = refl
lower_cases false false [] None = refl
lower_cases below true (x ∷ l) None = ap (last_or x) (append-nil l)
lower_cases below false (x ∷ l) None = ap (last_or x) (append-nil l)

pub lower_of_push : LowerInOrder
lower_of_push bounds b =
    ap₂ (λ below l. last_or (cond below None (Some (whole (pos 0)))) l) (list_any-append is_negative_upper bounds (b ∷ [])) (filter_map-append setting bounds (b ∷ []))
    ∙ lower_cases (list_any is_negative_upper bounds) (is_negative_upper b) (filter_map setting bounds) (setting b)

last_cases : (l : List (Option Decimal)) (o : Option (Option Decimal)) → last_or None (l ++ cons_option o []) ≡ unwrap_or o (last_or None l)
last_cases l (Some v) = last_or-push None l v
last_cases l None = ap (last_or None) (append-nil l)

pub upper_of_push : UpperInOrder
upper_of_push bounds b =
    ap (last_or None) (filter_map-append (λ x. upper_by x.kind (value_in x)) bounds (b ∷ [])) ∙ last_cases (filter_map (λ x. upper_by x.kind (value_in x)) bounds) (upper_by b.kind (value_in b))

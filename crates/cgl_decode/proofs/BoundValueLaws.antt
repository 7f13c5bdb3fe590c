-- What holds of each bound's value, of none, of 0 and of 1 holds of a column's bounds.
use Rattle.std.proofs.Common.{Bool, true, false, cond, ◌&&◌, List, [], ◌∷◌, filter_map, Option, Some, None, pos}
use Rattle.std.specs.List.{AllByRecursion, list_any, cons_option}
use Rattle.cgl_num.specs.Decimal.{Decimal}
use Rattle.cgl_num.specs.NumberText.{whole}
use Rattle.cgl_decode.specs.declared.kinds.BoundKind.{BoundKind}
use Rattle.cgl_decode.specs.declared.kinds.BoundKind.TheVariants.{Lo, Li, Up, Ui, Fx, Fr, Mi, Pl, Bv}
use Rattle.cgl_decode.specs.Sections.{Bound}
use Rattle.cgl_decode.specs.Models.{last_or, lower_by, upper_by, is_upper, is_below_zero, value_in, lower_of, upper_of}

-- the last of a list

pub last_keeps : {X : Type 0} (P : X → Type 0) (d : X) (xs : List X) → P d → AllByRecursion P xs → P (last_or d xs)
last_keeps P d [] first all = first
last_keeps P d (x ∷ xs) first all = last_keeps P x xs all.0 all.1

-- what is found among a list

given_case : {Y : Type 0} (P : Y → Type 0) (o : Option Y) (ys : List Y) → AllByRecursion P (cons_option o []) → AllByRecursion P ys → AllByRecursion P (cons_option o ys)
given_case P None ys own all = all
given_case P (Some y) ys own all = (own.0, all)

pub all_filter_map : {X Y : Type 0} (P : Y → Type 0) (h : X → Option Y) → ((x : X) → AllByRecursion P (cons_option (h x) [])) → (xs : List X) → AllByRecursion P (filter_map h xs)
all_filter_map P h own [] = tt
all_filter_map P h own (x ∷ xs) = given_case P (h x) (filter_map h xs) (own x) (all_filter_map P h own xs)

-- bounds

pub record HoldsOfBounds (P : Option Decimal → Type 0) : Type 0 where
  pub none : P None
  pub zero : P (Some (whole (pos 0)))
  pub one : P (Some (whole (pos 1)))
  pub value : (b : Bound) → P (value_in b)

lower_case : (P : Option Decimal → Type 0) → HoldsOfBounds P → (kind : BoundKind) (value : Option Decimal) → P value → AllByRecursion P (cons_option (lower_by kind value) [])
lower_case P holds Lo value is = (is, tt)
lower_case P holds Li value is = (is, tt)
lower_case P holds Fx value is = (is, tt)
lower_case P holds Fr value is = (holds.none, tt)
lower_case P holds Mi value is = (holds.none, tt)
lower_case P holds Bv value is = (holds.zero, tt)
lower_case P holds Up value is = tt
lower_case P holds Ui value is = tt
lower_case P holds Pl value is = tt

upper_case : (P : Option Decimal → Type 0) → HoldsOfBounds P → (kind : BoundKind) (value : Option Decimal) → P value → AllByRecursion P (cons_option (upper_by kind value) [])
upper_case P holds Up value is = (is, tt)
upper_case P holds Ui value is = (is, tt)
upper_case P holds Fx value is = (is, tt)
upper_case P holds Fr value is = (holds.none, tt)
upper_case P holds Pl value is = (holds.none, tt)
upper_case P holds Bv value is = (holds.one, tt)
upper_case P holds Lo value is = tt
upper_case P holds Li value is = tt
upper_case P holds Mi value is = tt

unset_case : (P : Option Decimal → Type 0) → HoldsOfBounds P → (b : Bool) → P (cond b None (Some (whole (pos 0))))
unset_case P holds true = holds.none
unset_case P holds false = holds.zero

pub lower_holds : (P : Option Decimal → Type 0) → HoldsOfBounds P → (bounds : List Bound) → P (lower_of bounds)
lower_holds P holds bounds =
    let below = list_any (λ b. is_upper b.kind && is_below_zero (value_in b)) bounds in
    last_keeps P (cond below None (Some (whole (pos 0)))) (filter_map (λ b. lower_by b.kind (value_in b)) bounds) (unset_case P holds below)
    (all_filter_map P (λ b. lower_by b.kind (value_in b)) (λ b. lower_case P holds b.kind (value_in b) (holds.value b)) bounds)

pub upper_holds : (P : Option Decimal → Type 0) → HoldsOfBounds P → (bounds : List Bound) → P (upper_of bounds)
upper_holds P holds bounds =
    last_keeps P None (filter_map (λ b. upper_by b.kind (value_in b)) bounds) holds.none
    (all_filter_map P (λ b. upper_by b.kind (value_in b)) (λ b. upper_case P holds b.kind (value_in b) (holds.value b)) bounds)

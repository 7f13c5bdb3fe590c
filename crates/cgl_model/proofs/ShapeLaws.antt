-- The steps by which a row's shape is found.
use Rattle.std.proofs.Common.{◌≡◌, ℕ, ℤ, ◌≤◌, ap, refl, sym, subst, ◌∙◌, List, [], ◌∷◌, ◌++◌, true, false, Bool, map}
use Rattle.std.specs.Prelude.{Option, Some, None, option_map, option_to_list}
use Rattle.std.specs.List.{All, AllByRecursion, filter, list_any}
use Rattle.std.specs.Option.{IfSome}
use Rattle.std.proofs.lemmas.List.Folds.{list_any-append}
use Rattle.std.proofs.lemmas.List.Elements.{All-from_recursion}
use Rattle.std.proofs.lemmas.Bool.{cond-true, cond-false, or_from, or_left, or_right}
use Rattle.cgl_num.specs.Decimal.{Decimal, places}
use Rattle.cgl_num.specs.Gcd.{gcd_of}
use Rattle.cgl_model.specs.declared.mip.RowKind.{RowKind}
use Rattle.cgl_model.specs.declared.mip.RowKind.TheVariants.{N, L, G, E}
use Rattle.cgl_model.specs.declared.mip.Row.{Row}
use Rattle.cgl_model.specs.declared.row_numbers.RowNumbers.{RowNumbers}
use Rattle.cgl_model.specs.declared.integer_forms.RowForm.{RowForm}
use Rattle.cgl_model.specs.declared.integer_forms.RowShape.TheVariants.{Free, Wide, Form}
use Rattle.cgl_model.specs.Ends.{lower_end, upper_end}
use Rattle.cgl_model.specs.Inequality.{Term}
use Rattle.cgl_model.specs.IntegerForm.{divided, divided_row, form_of, is_nonzero_term, is_wide_number, is_wide_row, row_ends, row_numbers, row_places, row_shape, row_shape_of, scaled_row, shape_of_numbers}
use Rattle.cgl_model.proofs.RowLaws.{ArePlaced, left_part, most_at, numbers_of, right_part}

placed_entries : (k : ℕ) (entries : List (ℕ × Decimal)) → ArePlaced k (numbers_of entries) → AllByRecursion (λ e. places e.1 ≤ k) entries
placed_entries k [] h = tt
placed_entries k (e ∷ entries) h = (h.0, placed_entries k entries h.1)

placed_range : (k : ℕ) (range : Option Decimal) → ArePlaced k (option_to_list range) → IfSome range (λ d. places d ≤ k)
placed_range k None h = tt
placed_range k (Some d) h = h.0

-- what the most decimal places of a row's numbers say of each
pub record ArePlacedIn (k : ℕ) (entries : List (ℕ × Decimal)) (row : Row) : Type 0 where
  pub coefficients : All (λ e. places e.1 ≤ k) entries
  pub rhs : places row.rhs ≤ k
  pub range : IfSome row.range (λ d. places d ≤ k)

pub placed : (k : ℕ) (entries : List (ℕ × Decimal)) (row : Row) → k ≡ row_places entries row → ArePlacedIn k entries row
placed k entries row e =
    let all = most_at (numbers_of entries ++ (row.rhs ∷ option_to_list row.range)) k e in
    let sides = right_part _ (numbers_of entries) (row.rhs ∷ option_to_list row.range) all in
    record {
      coefficients = All-from_recursion _ entries (placed_entries k entries (left_part _ (numbers_of entries) _ all));
      rhs = sides.0;
      range = placed_range k row.range sides.1;
    }

pub free_row : (entries : List (ℕ × Decimal)) (row : Row) → row.kind ≡ N → Free ≡ row_shape entries row
unfolding row_shape
free_row entries row e = sym (ap (λ kind. row_shape_of kind (scaled_row (row_places entries row) entries row)) e)

bound_row : (kind : RowKind) (n : RowNumbers) → (kind ≡ N → ⊥) → row_shape_of kind n ≡ shape_of_numbers kind n
bound_row N n h = absurd (h refl)
bound_row L n h = refl
bound_row G n h = refl
bound_row E n h = refl

pub shape_is : (entries : List (ℕ × Decimal)) (row : Row) (k : ℕ) (n : RowNumbers) → (row.kind ≡ N → ⊥) → k ≡ row_places entries row → n ≡ scaled_row k entries row
    → shape_of_numbers row.kind n ≡ row_shape entries row
unfolding row_shape
shape_is entries row k n h e f =
    ap (shape_of_numbers row.kind) (f ∙ ap (λ p. scaled_row p entries row) e) ∙ sym (bound_row row.kind (scaled_row (row_places entries row) entries row) h)

pub wide_shape : (entries : List (ℕ × Decimal)) (row : Row) (k : ℕ) → (row.kind ≡ N → ⊥) → k ≡ row_places entries row
    → list_any is_wide_number (row_numbers (scaled_row k entries row)) ≡ true → Wide ≡ row_shape entries row
wide_shape entries row k h e w =
    let n = scaled_row k entries row in
    let wide : is_wide_row row.kind n ≡ true = list_any-append is_wide_number (row_numbers n) (row_ends row.kind n) ∙ or_left _ _ w in
    sym (cond-true (is_wide_row row.kind n) Wide _ wide) ∙ shape_is entries row k n h e refl

pub narrow_shape : (kind : RowKind) (n : RowNumbers) (f : RowForm) → list_any is_wide_number (row_numbers n) ≡ false
    → list_any is_wide_number (option_to_list (lower_end kind n.rhs n.range)) ≡ false → list_any is_wide_number (option_to_list (upper_end kind n.rhs n.range)) ≡ false
    → f ≡ form_of kind (divided_row (gcd_of (row_numbers n)) n) → Form f ≡ shape_of_numbers kind n
narrow_shape kind n f a b c e =
    let ends = list_any-append is_wide_number (option_to_list (lower_end kind n.rhs n.range)) (option_to_list (upper_end kind n.rhs n.range)) ∙ or_from _ _ b c in
    let narrow : is_wide_row kind n ≡ false = list_any-append is_wide_number (row_numbers n) (row_ends kind n) ∙ or_from _ _ a ends in
    ap Form e ∙ sym (cond-false (is_wide_row kind n) Wide _ narrow)

-- an end is found as `x`, which is `y`
pub end_is : (wide : Bool) (x y : Option ℤ) (is : Bool) → wide ≡ list_any is_wide_number (option_to_list x) → x ≡ y → wide ≡ is → list_any is_wide_number (option_to_list y) ≡ is
end_is wide x y is e f g = ap (λ z. list_any is_wide_number (option_to_list z)) (sym f) ∙ sym e ∙ g

wide_ends : (kind : RowKind) (n : RowNumbers) → list_any is_wide_number (row_ends kind n) ≡ true → Wide ≡ shape_of_numbers kind n
wide_ends kind n h = sym (cond-true (is_wide_row kind n) Wide _ (list_any-append is_wide_number (row_numbers n) (row_ends kind n) ∙ or_right _ _ h))

pub wide_lower : (kind : RowKind) (n : RowNumbers) → list_any is_wide_number (option_to_list (lower_end kind n.rhs n.range)) ≡ true → Wide ≡ shape_of_numbers kind n
wide_lower kind n h = wide_ends kind n (list_any-append is_wide_number (option_to_list (lower_end kind n.rhs n.range)) (option_to_list (upper_end kind n.rhs n.range)) ∙ or_left _ _ h)

pub wide_upper : (kind : RowKind) (n : RowNumbers) → list_any is_wide_number (option_to_list (upper_end kind n.rhs n.range)) ≡ true → Wide ≡ shape_of_numbers kind n
wide_upper kind n h = wide_ends kind n (list_any-append is_wide_number (option_to_list (lower_end kind n.rhs n.range)) (option_to_list (upper_end kind n.rhs n.range)) ∙ or_right _ _ h)

-- the parts of a form as they are computed
pub form_made : (kind : RowKind) (n : RowNumbers) (g h : ℕ) (items coeffs : List Term) (rhs : ℤ) (range lo up : Option ℤ) → g ≡ h → items ≡ n.coeffs
    → coeffs ≡ filter is_nonzero_term (map (λ t. (t.0, divided g t.1)) items) → rhs ≡ divided g n.rhs → range ≡ option_map (divided g) n.range
    → lo ≡ lower_end kind rhs range → up ≡ upper_end kind rhs range → record { coeffs = coeffs; rhs = rhs; lo = lo; up = up } ≡ form_of kind (divided_row h n)
form_made kind n g h items coeffs rhs range lo up same read terms right width lower upper =
    let f : RowForm = record { coeffs = coeffs; rhs = rhs; lo = lo; up = up } in
    let F : ℕ → Type 0 = λ k. f ≡ form_of kind (divided_row k n) in
    subst F same cc

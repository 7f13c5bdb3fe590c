-- What a reader carries from line to line in place of the records so far.
use Rattle.std.specs.Prelude.{◌≡◌, ℕ, ◌==◌, ◌<◌, ◌≤◌, ◌^◌, nat_lt, nat_le, unsigned_abs, Bool, false, not, List, [], ◌∷◌, ◌++◌, bytes_eq, length, find, position, slice_get, slice_set, Option, Some, None, is_none, is_some, option_and_then, unwrap_or, if◌then◌else◌}
use Rattle.std.specs.List.{list_any}
use Rattle.cgl_num.specs.Fraction.{Fraction}
use Rattle.cgl_num.specs.NumberText.{Word}
use Rattle.cgl_model.specs.declared.mip.Model.{Model}
use Rattle.cgl_where.specs.declared.carried.Carried.{Carried}
use Rattle.cgl_where.specs.PointValue.{value}
use Rattle.cgl_text.specs.Conditions.{Condition, first_kind}
use Rattle.cgl_where.specs.PointFile.{Record, field, kept, names_column, column_names, values, common_denominator, numerator_over, lcm, is_kept, is_too_fine, value_conditions, zero_fraction}

-- the first column of the name
abbrev pub column_number : Model → Word → Option ℕ
column_number m name = position (bytes_eq name) (column_names m)

-- the value of the column of this number, where a line named it
abbrev pub named_at : List (Option Fraction) → Option ℕ → Option Fraction
named_at named None = None
named_at named (Some j) = unwrap_or (slice_get named j) None

-- the value of the line that names the column, where there is one
abbrev pub found_value : List Record → Word → Option Fraction
found_value records name = option_and_then (λ r. value (field 1 r)) (find (names_column name) records)

-- a numerator over d reaches 2^100
abbrev pub is_wide : ℕ → Fraction → Bool
is_wide d f = nat_le (2 ^ 100) (unsigned_abs (numerator_over d f))

-- the common denominator d of values and one value more, unless they are too fine
abbrev pub grown_within : ℕ → List Fraction → Fraction → Option ℕ
grown_within d fs f = if nat_lt (2 ^ 62) d then None else if is_wide d f then None else if list_any (is_wide d) fs then None else Some d

abbrev pub grown_denominator : List Fraction → ℕ → Fraction → Option ℕ
grown_denominator fs d f = grown_within (lcm (unsigned_abs f.den) d) fs f

abbrev pub carried_conditions : Model → Carried → Record → List Condition
carried_conditions m carried r =
    (not (length r.fields == 2), 3)
    ∷ (is_none (column_number m (field 0 r)), 6)
    ∷ (is_some (named_at carried.named.items (column_number m (field 0 r))), 14)
    ∷ (is_none (value (field 1 r)), 4)
    ∷ (is_none (option_and_then (grown_denominator carried.values.items carried.denominator) (value (field 1 r))), 13)
    ∷ []

-- what holds of what is carried, whatever the records were
pub record IsSound (m : Model) (carried : Carried) : Type 0 where
  pub counted : length carried.named.items ≡ length m.cols
  pub positive : 0 < carried.denominator
  pub within : carried.denominator ≤ 2 ^ 62
  pub fine : list_any (is_wide carried.denominator) carried.values.items ≡ false

-- each column's value by its name, all values in order, and their common denominator
pub record Carries (m : Model) (before : List Record) (carried : Carried) : Type 0 where
  pub counted : length carried.named.items ≡ length m.cols
  pub named_are : (name : Word) → named_at carried.named.items (column_number m name) ≡ found_value before name
  pub known : (name : Word) → is_some (found_value before name) ≡ list_any (names_column name) before
  pub values_are : carried.values.items ≡ values before
  pub common : carried.denominator ≡ common_denominator (values before)
  pub fine : is_too_fine (values before) ≡ false

-- the value of a record was taken in
pub record TakesIn (m : Model) (r : Record) (old new : Carried) : Type 0 where
  pub column : ℕ
  pub taken : Fraction
  pub is_column : column_number m (field 0 r) ≡ Some column
  pub is_value : value (field 1 r) ≡ Some taken
  pub named_are : new.named.items ≡ slice_set old.named.items column (Some taken)
  pub values_are : new.values.items ≡ old.values.items ++ taken ∷ []
  pub common : new.denominator ≡ lcm (unsigned_abs taken.den) old.denominator

-- the kind of fault that a line is after the kept records before it, if it ends within the limit on bytes
abbrev pub kind_within : Model → List Record → Record → Option ℕ
kind_within m before r = first_kind ((nat_lt 4096 r.bytes, 11) ∷ (if is_kept r then value_conditions m before r else []))

-- the line is this fault after the records before it, or it is carried with them
abbrev pub FollowsLine : Model → Record → Option ℕ → Carried → Carried → Type 0
FollowsLine m r kind old new =
    (before : List Record) → Carries m before old → (kind ≡ kind_within m before r) × (kind ≡ None → Carries m (before ++ kept (r ∷ [])) new)

-- the value of the column of the name, or 0
abbrev pub carried_value : Model → List (Option Fraction) → Word → Fraction
carried_value m named name = unwrap_or (named_at named (column_number m name)) zero_fraction

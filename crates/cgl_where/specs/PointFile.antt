-- What the bytes of a point file mean for a model: a point, or the line and the kind of the first fault.
use Rattle.std.specs.Prelude.{ℕ, ◌+◌, ◌*◌, ◌/◌, ◌^◌, ◌==◌, nat_lt, nat_le, ℤ, pos, ◌*ℤ◌, unsigned_abs, Bool, not, ◌||◌, List, [], ◌∷◌, ◌++◌, bytes_eq, length, map, find, filter, filter_map, Option, is_none, option_map, option_and_then, unwrap_or, if◌then◌else◌, slice_get}
use Rattle.std.specs.List.{list_any}
use Rattle.cgl_num.specs.Fraction.{Fraction}
use Rattle.cgl_num.specs.Gcd.{gcd}
use Rattle.cgl_num.specs.NumberText.{Word}
use Rattle.cgl_text.specs.Conditions.{Condition, first_kind}
use Rattle.cgl_text.specs.Text.{lines_of, kept_fields, no_field, is_one_of, is_over, most_bytes}
use Rattle.cgl_model.specs.declared.mip.Model.{Model}
use Rattle.cgl_model.specs.Point.{Point}
use Rattle.cgl_where.specs.PointValue.{value}

-- ---- lines

-- a line; one that is ignored has no fields
pub record Record : Type 0 where
  pub line : ℕ
  pub bytes : ℕ
  pub fields : List Word

abbrev pub record_of : ℕ → List ℕ → Record
record_of n line = record { line = n; bytes = length line; fields = kept_fields line }

abbrev pub records_from : ℕ → List (List ℕ) → List Record
records_from n [] = []
records_from n (line ∷ lines) = record_of n line ∷ records_from (n + 1) lines

abbrev pub records : List ℕ → List Record
records bytes = records_from 1 (lines_of bytes)

abbrev pub is_kept : Record → Bool
is_kept r = not (no_field r.fields)

abbrev pub kept : List Record → List Record
kept records = filter is_kept records

-- those of the lines before line n
abbrev pub before : ℕ → List Record → List Record
before n records = filter (λ r. nat_lt r.line n) records

abbrev pub field : ℕ → Record → Word
field k r = unwrap_or (slice_get r.fields k) []

-- ---- values over a common denominator

abbrev pub lcm : ℕ → ℕ → ℕ
lcm a b = a * (b / gcd a b)

-- the least common denominator of fractions
abbrev pub common_denominator : List Fraction → ℕ
common_denominator [] = 1
common_denominator (f ∷ fs) = lcm (unsigned_abs f.den) (common_denominator fs)

-- the numerator of a fraction over a denominator that its own divides
abbrev pub numerator_over : ℕ → Fraction → ℤ
numerator_over d f = f.num *ℤ pos (d / unsigned_abs f.den)

-- the values of lines, where they have one
abbrev pub values : List Record → List Fraction
values records = filter_map (λ r. value (field 1 r)) records

-- the common denominator is above 2^62, or a numerator over it reaches 2^100
abbrev pub is_too_fine : List Fraction → Bool
is_too_fine fs =
    nat_lt (2 ^ 62) (common_denominator fs)
    || list_any (λ f. nat_le (2 ^ 100) (unsigned_abs (numerator_over (common_denominator fs) f))) fs

-- ---- faults

abbrev pub column_names : Model → List Word
column_names m = map (λ c. c.name) m.cols

abbrev pub names_column : Word → Record → Bool
names_column name r = bytes_eq name (field 0 r)

abbrev pub value_conditions : Model → List Record → Record → List Condition
value_conditions m before r =
    (not (length r.fields == 2), 3)
    ∷ (not (is_one_of (column_names m) (field 0 r)), 6)
    ∷ (list_any (names_column (field 0 r)) before, 14)
    ∷ (is_none (value (field 1 r)), 4)
    ∷ (is_too_fine (values (before ++ r ∷ [])), 13)
    ∷ []

abbrev pub conditions : ℕ → List ℕ → Model → List Record → Record → List Condition
conditions most bytes m before r =
    (is_over most bytes r.line, 12) ∷ (nat_lt 4096 r.bytes, 11) ∷ (if is_kept r then value_conditions m before r else [])

-- the kind of fault that a line is, after the kept records of the lines before it
unfoldable pub fault_after : ℕ → List ℕ → Model → List Record → Record → Option ℕ
fault_after most bytes m before r = first_kind (conditions most bytes m before r)

abbrev pub fault_at : ℕ → List ℕ → Model → List Record → Record → Option (ℕ × ℕ)
fault_at most bytes m records r = option_map (λ kind. (r.line, kind)) (fault_after most bytes m (before r.line (kept records)) r)

-- the faults of the lines, in order
abbrev pub faults : ℕ → List ℕ → Model → List Record → List (ℕ × ℕ)
faults most bytes m records = filter_map (fault_at most bytes m records) records

-- ---- the point

abbrev pub zero_fraction : Fraction
zero_fraction = record { num = pos 0; den = pos 1 }

-- the value of the line that names the column, or 0
abbrev pub value_at : List Record → Word → Fraction
value_at records name = unwrap_or (option_and_then (λ r. value (field 1 r)) (find (names_column name) records)) zero_fraction

abbrev pub point_over : ℕ → List Fraction → Point
point_over d fs = record { p = map (numerator_over d) fs; d = pos d }

abbrev pub point_in : List Fraction → Point
point_in fs = point_over (common_denominator fs) fs

abbrev pub point_from : Model → List Record → Point
point_from m records = point_in (map (value_at records) (column_names m))

pub data Outcome : Type 0 where
  Values : Point → Outcome
  Fault : ℕ → ℕ → Outcome

abbrev pub outcome : Model → List (ℕ × ℕ) → List Record → Outcome
outcome m (fault ∷ others) records = Fault fault.0 fault.1
outcome m [] records = Values (point_from m (kept records))

abbrev pub point_within : ℕ → List ℕ → Model → Outcome
point_within most bytes m = outcome m (faults most bytes m (records bytes)) (records bytes)

unfoldable pub point_of : List ℕ → Model → Outcome
point_of bytes m = point_within most_bytes bytes m

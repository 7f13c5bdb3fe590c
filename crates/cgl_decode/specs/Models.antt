-- The model that a deck means.
use Rattle.std.specs.Prelude.{ℕ, pos, int_lt, Bool, true, false, ◌&&◌, ◌||◌, if◌then◌else◌, List, [], ◌∷◌, codes, bytes_eq, map, find, filter, filter_map, flat_map, position, Option, Some, None, unwrap_or, option_map, option_and_then, slice_get}
use Rattle.std.specs.List.{list_any, before_first}
use Rattle.cgl_num.specs.NumberText.{Word}
use Rattle.cgl_text.specs.Text.{is_one_of}
use Rattle.cgl_num.specs.Decimal.{Decimal}
use Rattle.cgl_num.specs.NumberText.{whole, number, limit, finite}
use Rattle.cgl_model.specs.declared.mip.Row.{Row}
use Rattle.cgl_model.specs.declared.mip.Column.{Column}
use Rattle.cgl_model.specs.declared.mip.Model.{Model}
use Rattle.cgl_decode.specs.declared.kinds.Section.TheVariants.{Name, Columns, Rhs, Ranges}
use Rattle.cgl_decode.specs.Records.{Record, field, data_in, same_section}
use Rattle.cgl_model.specs.declared.mip.RowKind.{RowKind}
use Rattle.cgl_decode.specs.declared.kinds.BoundKind.{BoundKind}
use Rattle.cgl_decode.specs.declared.kinds.BoundKind.TheVariants.{Lo, Li, Up, Ui, Fx, Fr, Mi, Pl, Bv}
use Rattle.cgl_decode.specs.Sections.{senses, rows, row_names, Pair, is_marker, names_column, column_records, column_names, entry_pairs, counting_pairs, Bound, counting_bounds}

abbrev pub last_or {ℓ} : {X : Type ℓ} → X → List X → X
last_or d [] = d
last_or d (x ∷ xs) = last_or x xs

-- the word of the first pair that names the row
abbrev pub value_for : List Pair → Word → Option Word
value_for pairs row = option_map (λ p. p.1) (find (λ p. bytes_eq row p.0) pairs)

-- the value of the pair that names the row
abbrev pub value_at : List Pair → Word → Option Decimal
value_at pairs row = option_and_then (λ p. number p.1) (find (λ p. bytes_eq row p.0) pairs)

abbrev pub row_of : List Record → RowKind × Word → Row
row_of records r =
    record {
      name = r.1;
      kind = r.0;
      rhs = unwrap_or (value_at (counting_pairs Rhs records) r.1) (whole (pos 0));
      range = value_at (counting_pairs Ranges records) r.1;
    }

abbrev pub entry_of : List Word → Pair → Option (ℕ × Decimal)
entry_of names pair = option_and_then (λ i. option_map (λ d. (i, d)) (number pair.1)) (position (bytes_eq pair.0) names)

abbrev pub entries_of : List Record → Word → List (ℕ × Decimal)
entries_of records name = filter_map (entry_of (row_names records)) (flat_map entry_pairs (filter (names_column name) (column_records records)))

-- the last marker before the column's first record begins integer columns
abbrev pub is_marked : List Record → Word → Bool
is_marked records name = bytes_eq (last_or [] (map (field 2) (filter is_marker (before_first (names_column name) (data_in Columns records))))) (codes "'INTORG'")

abbrev pub makes_integer : BoundKind → Bool
makes_integer Li = true
makes_integer Ui = true
makes_integer Bv = true
makes_integer kind = false

-- what a record makes the lower bound, if it sets it: a value, or None for infinite
abbrev pub lower_by : BoundKind → Option Decimal → Option (Option Decimal)
lower_by Lo value = Some value
lower_by Li value = Some value
lower_by Fx value = Some value
lower_by Fr value = Some None
lower_by Mi value = Some None
lower_by Bv value = Some (Some (whole (pos 0)))
lower_by kind value = None

abbrev pub upper_by : BoundKind → Option Decimal → Option (Option Decimal)
upper_by Up value = Some value
upper_by Ui value = Some value
upper_by Fx value = Some value
upper_by Fr value = Some None
upper_by Pl value = Some None
upper_by Bv value = Some (Some (whole (pos 1)))
upper_by kind value = None

abbrev pub is_upper : BoundKind → Bool
is_upper Up = true
is_upper Ui = true
is_upper kind = false

-- a finite value; an infinite one is None
abbrev pub value_in : Bound → Option Decimal
value_in b = finite (limit (unwrap_or b.value []))

abbrev pub is_below_zero : Option Decimal → Bool
is_below_zero None = false
is_below_zero (Some d) = int_lt d.m (pos 0)

-- the last record that sets the lower bound; with none, a UP or UI below 0 makes it infinite, and else it is 0
-- (a UP or UI behind a record that sets it leaves it, and one before is behind none, so the place of a UP counts for nothing)
abbrev pub lower_of : List Bound → Option Decimal
lower_of bounds =
    last_or (if list_any (λ b. is_upper b.kind && is_below_zero (value_in b)) bounds then None else Some (whole (pos 0)))
    (filter_map (λ b. lower_by b.kind (value_in b)) bounds)

-- the last record that sets the upper bound, and else infinite
abbrev pub upper_of : List Bound → Option Decimal
upper_of bounds = last_or None (filter_map (λ b. upper_by b.kind (value_in b)) bounds)

abbrev pub bounds_of : List Record → Word → List Bound
bounds_of records name = filter (λ b. bytes_eq name b.column) (counting_bounds records)

abbrev pub column_of : List Record → Word → Column
column_of records name =
    record {
      name = name;
      integer = is_marked records name || list_any (λ b. makes_integer b.kind) (bounds_of records name);
      lo = lower_of (bounds_of records name);
      up = upper_of (bounds_of records name);
      entries = entries_of records name;
    }

abbrev pub name_in : Record → Option Word
name_in r = if same_section Name r.section then slice_get r.fields 1 else None

unfoldable pub model_of : List Record → Model
model_of records =
    record {
      name = last_or [] (filter_map name_in records);
      maximise = list_any (is_one_of (codes "MAX" ∷ codes "MAXIMIZE" ∷ [])) (senses records);
      rows = map (row_of records) (rows records);
      cols = map (column_of records) (column_names records);
    }

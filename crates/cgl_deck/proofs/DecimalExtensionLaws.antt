-- The numbers of a model with cuts as further rows are decimals within the limits where those of the model are.
use Rattle.std.proofs.Common.{◌≡◌, ℤ, ℕ, ◌+◌, List, [], ◌∷◌, length, map, Option, Some, None, option_map, refl, subst}
use Rattle.std.specs.Prelude.{find, unwrap_or, ◌==◌}
use Rattle.std.specs.List.{AllByRecursion, zip}
use Rattle.std.specs.Option.{IfSome}
use Rattle.cgl_num.specs.Decimal.{Decimal, IsDecimal, decimal_of, zero_decimal}
use Rattle.cgl_num.proofs.DecimalLaws.{whole-valid, zero_valid}
use Rattle.cgl_num.specs.NumberText.{Word}
use Rattle.cgl_model.specs.declared.linear.Ineq.{Ineq}
use Rattle.cgl_model.specs.declared.mip.Column.{Column}
use Rattle.cgl_model.specs.declared.mip.Model.{Model}
use Rattle.cgl_model.specs.HasDecimals.{HasDecimals, IsDecimalColumn, IsDecimalRow}
use Rattle.cgl_model.specs.Inequality.{Term}
use Rattle.cgl_model.specs.RowEntries.{onto_entries}
use Rattle.cgl_deck.specs.CutNames.{cut_names}
use Rattle.cgl_deck.specs.Extended.{coefficient_at, cut_entries, cut_row, decimal_or_zero, extended, extended_column, extended_columns_from, with_rows}
use Rattle.cgl_deck.proofs.ExtensionLaws.{extension_of}
use Rattle.cgl_deck.proofs.ValidLaws.{all_append}

or_zero : (n : ℤ) (o : Option Decimal) → decimal_of n ≡ o → IsDecimal (unwrap_or o zero_decimal)
or_zero n None e = zero_valid
or_zero n (Some d) e = whole-valid n d e

decimal_is : (n : ℤ) → IsDecimal (decimal_or_zero n)
decimal_is n = or_zero n (decimal_of n) refl

cut_rows : (named : List (Word × Ineq)) → AllByRecursion IsDecimalRow (map cut_row named)
cut_rows [] = tt
cut_rows (x ∷ named) = (record { rhs = decimal_is x.1.rhs; range = tt }, cut_rows named)

coefficient : (o : Option Term) → IfSome (option_map (λ (t : Term). decimal_or_zero t.1) o) IsDecimal
coefficient None = tt
coefficient (Some t) = decimal_is t.1

onto : (r : ℕ) (o : Option Decimal) (entries : List (ℕ × Decimal)) → IfSome o IsDecimal → AllByRecursion (λ (e : ℕ × Decimal). IsDecimal e.1) entries
    → AllByRecursion (λ (e : ℕ × Decimal). IsDecimal e.1) (onto_entries r o entries)
onto r None entries h rest = rest
onto r (Some d) entries h rest = (h, rest)

entries_are : (j r : ℕ) (cuts : List Ineq) → AllByRecursion (λ (e : ℕ × Decimal). IsDecimal e.1) (cut_entries j r cuts)
entries_are j r [] = tt
entries_are j r (c ∷ cuts) = onto r (coefficient_at j c.terms) (cut_entries j (r + 1) cuts) (coefficient (find (λ t. j == t.0) c.terms)) (entries_are j (r + 1) cuts)

column_is : (r j : ℕ) (cuts : List Ineq) (c : Column) → IsDecimalColumn c → IsDecimalColumn (extended_column r j cuts c)
column_is r j cuts c h = record { lower = h.lower; upper = h.upper; entries = all_append _ c.entries (cut_entries j r cuts) h.entries (entries_are j r cuts) }

columns_are : (r j : ℕ) (cuts : List Ineq) (cols : List Column) → AllByRecursion IsDecimalColumn cols → AllByRecursion IsDecimalColumn (extended_columns_from r j cuts cols)
columns_are r j cuts [] h = tt
columns_are r j cuts (c ∷ cols) h = (column_is r j cuts c h.0, columns_are r (j + 1) cuts cols h.1)

with_rows_decimal : (m : Model) (cuts : List Ineq) → HasDecimals m → HasDecimals (with_rows m cuts)
with_rows_decimal m cuts h =
    record {
      rows = all_append _ m.rows (map cut_row (zip (cut_names m (length cuts)) cuts)) h.rows (cut_rows (zip (cut_names m (length cuts)) cuts));
      columns = columns_are (length m.rows) 0 cuts m.cols h.columns;
    }

pub extension_decimal : (m n : Model) (cuts : List Ineq) → extended m cuts ≡ Some n → HasDecimals m → HasDecimals n
extension_decimal m n cuts e h =
    let P : Model → Type 0 = λ y. HasDecimals y in
    subst P (extension_of m cuts n e).is (with_rows_decimal m cuts h)

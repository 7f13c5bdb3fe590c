-- The numbers of a deck's model are decimals within the limits.
use Rattle.std.proofs.Common.{◌≡◌, refl, sym, subst, ℕ, List, [], ◌∷◌, map, find, filter, flat_map, position, bytes_eq, Option, Some, None, unwrap_or, option_map, option_and_then, pos, lit<, arith}
use Rattle.std.specs.List.{AllByRecursion, cons_option}
use Rattle.std.specs.Option.{IfSome}
use Rattle.std.proofs.lemmas.Int.{ints}
use Rattle.cgl_num.specs.Decimal.{Decimal, IsDecimal}
use Rattle.cgl_num.specs.declared.number_text.Limit.{Limit}
use Rattle.cgl_num.specs.declared.number_text.Limit.TheVariants.{Finite, Plus, Minus}
use Rattle.cgl_num.specs.NumberText.{Word, whole, number, limit, finite}
use Rattle.cgl_num.proofs.NumberLawsValid.{number-valid, bound-valid}
use Rattle.cgl_model.specs.declared.mip.RowKind.{RowKind}
use Rattle.cgl_model.specs.HasDecimals.{IsDecimalRow, IsDecimalColumn, HasDecimals}
use Rattle.cgl_decode.specs.declared.kinds.Section.TheVariants.{Ranges, Rhs}
use Rattle.cgl_decode.specs.Records.{Record}
use Rattle.cgl_decode.specs.Sections.{Pair, rows, row_names, names_column, column_records, column_names, entry_pairs, counting_pairs}
use Rattle.cgl_decode.specs.Models.{model_of, row_of, column_of, entry_of, entries_of, value_at, bounds_of}
use Rattle.cgl_decode.specs.Decode.{deck_limits}
use Rattle.cgl_decode.specs.Meaning.{DecksAreDecimal}
use Rattle.cgl_decode.proofs.BoundValueLaws.{HoldsOfBounds, all_filter_map, lower_holds, upper_holds}
use Rattle.cgl_decode.proofs.JudgedLaws.{Found, deck_keeps}
use Rattle.cgl_decode.proofs.SizeLaws.{rows_are, cols_are}

zero_decimal : IsDecimal (whole (pos 0))
zero_decimal = record {
  normal = record { digit = λ _. refl; zero = λ _. refl };
  within = record { digits = lit< tt; scale = omega (arith, ints); size = lit< tt };
}

one_decimal : IsDecimal (whole (pos 1))
one_decimal = record {
  normal = record { digit = λ e. cc; zero = λ _. refl };
  within = record { digits = lit< tt; scale = omega (arith, ints); size = lit< tt };
}

-- rows

number_case : (text : Word) (o : Option Decimal) → number text ≡ o → IfSome o IsDecimal
number_case text None is = tt
number_case text (Some d) is = number-valid text d is

found_case : (o : Option Pair) → IfSome (option_and_then (λ p. number p.1) o) IsDecimal
found_case None = tt
found_case (Some p) = number_case p.1 (number p.1) refl

value_decimal : (pairs : List Pair) (row : Word) → IfSome (value_at pairs row) IsDecimal
value_decimal pairs row = found_case (find (λ p. bytes_eq row p.0) pairs)

or_zero : (o : Option Decimal) → IfSome o IsDecimal → IsDecimal (unwrap_or o (whole (pos 0)))
or_zero None is = zero_decimal
or_zero (Some d) is = is

row_decimal : (records : List Record) (r : RowKind × Word) → IsDecimalRow (row_of records r)
row_decimal records r = record {
  rhs = or_zero (value_at (counting_pairs Rhs records) r.1) (value_decimal (counting_pairs Rhs records) r.1);
  range = value_decimal (counting_pairs Ranges records) r.1;
}

-- columns

abbrev IsDecimalBound : Option Decimal → Type 0
IsDecimalBound bound = IfSome bound IsDecimal

limit_case : (text : Word) (o : Option Limit) → limit text ≡ o → IsDecimalBound (finite o)
limit_case text None is = tt
limit_case text (Some Plus) is = tt
limit_case text (Some Minus) is = tt
limit_case text (Some (Finite d)) is = bound-valid text d is

bounds_decimal : HoldsOfBounds IsDecimalBound
bounds_decimal = record {
  none = tt;
  zero = zero_decimal;
  one = one_decimal;
  value = λ b. limit_case (unwrap_or b.value []) (limit (unwrap_or b.value [])) refl;
}

abbrev IsDecimalEntry : ℕ × Decimal → Type 0
IsDecimalEntry e = IsDecimal e.1

entry_case : (text : Word) (at : Option ℕ) (o : Option Decimal) → number text ≡ o → AllByRecursion IsDecimalEntry (cons_option (option_and_then (λ i. option_map (λ d. (i, d)) o) at) [])
entry_case text None o is = tt
entry_case text (Some i) None is = tt
entry_case text (Some i) (Some d) is = (number-valid text d is, tt)

entries_decimal : (records : List Record) (name : Word) → AllByRecursion IsDecimalEntry (entries_of records name)
entries_decimal records name =
    let names = row_names records in
    all_filter_map IsDecimalEntry (entry_of names) (λ pair. entry_case pair.1 (position (bytes_eq pair.0) names) (number pair.1) refl)
    (flat_map entry_pairs (filter (names_column name) (column_records records)))

column_decimal : (records : List Record) (name : Word) → IsDecimalColumn (column_of records name)
column_decimal records name = record {
  lower = lower_holds IsDecimalBound bounds_decimal (bounds_of records name);
  upper = upper_holds IsDecimalBound bounds_decimal (bounds_of records name);
  entries = entries_decimal records name;
}

-- models

all_each : {X Y : Type 0} (P : Y → Type 0) (f : X → Y) → ((x : X) → P (f x)) → (xs : List X) → AllByRecursion P (map f xs)
all_each P f each [] = tt
all_each P f each (x ∷ xs) = (each x, all_each P f each xs)

pub model_decimal : (records : List Record) → HasDecimals (model_of records)
model_decimal records = record {
  rows = subst (AllByRecursion IsDecimalRow) (sym (rows_are records)) (all_each IsDecimalRow (row_of records) (row_decimal records) (rows records));
  columns = subst (AllByRecursion IsDecimalColumn) (sym (cols_are records)) (all_each IsDecimalColumn (column_of records) (column_decimal records) (column_names records));
}

pub decks_decimal : DecksAreDecimal
decks_decimal bytes m is =
    let found : Found (λ records. Unit {0}) m = deck_keeps (λ records. Unit {0}) deck_limits bytes (λ before n section line is_line kept none so_far. tt) tt m is in
    subst HasDecimals (sym found.1) (model_decimal found.0)

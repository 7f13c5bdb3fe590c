-- Whether two models are the same.
use Rattle.std.specs.Prelude.{Bool, true, false, ◌&&◌, ℕ, nat_eq, bytes_eq, Option, Some, None}
use Rattle.std.specs.Cmp.Lexicographic.{pointwise}
use Rattle.cgl_num.specs.Decimal.{Decimal}
use Rattle.cgl_num.specs.DecimalEquality.{decimal_eq}
use Rattle.cgl_model.specs.declared.mip.RowKind.{RowKind}
use Rattle.cgl_model.specs.declared.mip.RowKind.TheVariants.{N, L, G, E}
use Rattle.cgl_model.specs.declared.mip.Row.{Row}
use Rattle.cgl_model.specs.declared.mip.Column.{Column}
use Rattle.cgl_model.specs.declared.mip.Model.{Model}

abbrev pub same_kind : RowKind → RowKind → Bool
same_kind N N = true
same_kind L L = true
same_kind G G = true
same_kind E E = true
same_kind _ _ = false

abbrev pub same_flag : Bool → Bool → Bool
same_flag true other = other
same_flag false true = false
same_flag false false = true

abbrev pub same_limit : Option Decimal → Option Decimal → Bool
same_limit None None = true
same_limit (Some a) (Some b) = decimal_eq a b
same_limit _ _ = false

unfoldable pub same_row : Row → Row → Bool
same_row a b = bytes_eq a.name b.name && same_kind a.kind b.kind && decimal_eq a.rhs b.rhs && same_limit a.range b.range

abbrev pub same_entry : ℕ × Decimal → ℕ × Decimal → Bool
same_entry a b = nat_eq a.0 b.0 && decimal_eq a.1 b.1

unfoldable pub same_column : Column → Column → Bool
same_column a b =
    bytes_eq a.name b.name && same_flag a.integer b.integer && same_limit a.lo b.lo && same_limit a.up b.up && pointwise same_entry a.entries b.entries

unfoldable pub same_model : Model → Model → Bool
same_model a b = bytes_eq a.name b.name && same_flag a.maximise b.maximise && pointwise same_row a.rows b.rows && pointwise same_column a.cols b.cols

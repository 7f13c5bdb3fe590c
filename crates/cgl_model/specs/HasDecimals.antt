-- Models all of whose numbers are decimals within the limits, as those of each model in a program are.
use Rattle.std.specs.Option.{IfSome}
use Rattle.std.specs.List.{AllByRecursion}
use Rattle.cgl_num.specs.Decimal.{IsDecimal}
use Rattle.cgl_model.specs.declared.mip.Row.{Row}
use Rattle.cgl_model.specs.declared.mip.Column.{Column}
use Rattle.cgl_model.specs.declared.mip.Model.{Model}

pub record IsDecimalRow (row : Row) : Type 0 where
  pub rhs : IsDecimal row.rhs
  pub range : IfSome row.range IsDecimal

pub record IsDecimalColumn (c : Column) : Type 0 where
  pub lower : IfSome c.lo IsDecimal
  pub upper : IfSome c.up IsDecimal
  pub entries : AllByRecursion (λ e. IsDecimal e.1) c.entries

pub record HasDecimals (m : Model) : Type 0 where
  pub rows : AllByRecursion IsDecimalRow m.rows
  pub columns : AllByRecursion IsDecimalColumn m.cols

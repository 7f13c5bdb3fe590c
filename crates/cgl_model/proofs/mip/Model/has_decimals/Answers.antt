use Rattle.std.proofs.Common.{ℕ, List, arith, subst}
use Rattle.std.specs.List.{AllByRecursion}
use Rattle.std.proofs.lemmas.List.Elements.{recursion_from_All}
use Rattle.cgl_num.specs.Decimal.{Decimal, IsDecimal}
use Rattle.cgl_model.specs.declared.mip.Row.{Row}
use Rattle.cgl_model.specs.declared.mip.Column.{Column}
use Rattle.cgl_model.specs.HasDecimals.{IsDecimalColumn, IsDecimalRow}
use Rattle.cgl_model.proofs.ListLaws.{all_hold, more_hold}
use Rattle.cgl_model.proofs.mip.Model.has_decimals.Goals as goal

pub loop-row-preserved : goal.loop-row-preserved
loop-row-preserved c =
    more_hold IsDecimalRow c.as_slice-row-items.result.now c.loop-row.row-index c.row-item.result (omega arith) c.row-item.is c.loop-row.invariant
    (record { rhs = c.m-m.ensures.valid; range = c.limit_is_decimal.ensures })

pub loop-column-preserved : goal.loop-column-preserved
loop-column-preserved c =
    let F : List (ℕ × Decimal) → Type 0 = AllByRecursion (λ e. IsDecimal e.1) in
    more_hold IsDecimalColumn c.as_slice-column-items.result.now c.loop-column.column-index c.column-item.result (omega arith) c.column-item.is c.loop-column.invariant
    (record {
      lower = c.limit_is_decimal-in-loop-column.ensures;
      upper = c.limit_is_decimal-in-loop-column-2.ensures;
      entries = subst F c.as_slice.ensures (recursion_from_All _ c.as_slice.result.now c.entries_are_decimals.ensures);
    })

pub returns : goal.returns
returns c =
    let F : List Row → Type 0 = AllByRecursion IsDecimalRow in
    let G : List Column → Type 0 = AllByRecursion IsDecimalColumn in
    record {
      rows = subst F c.as_slice-row-items.ensures (recursion_from_All _ _ (all_hold IsDecimalRow c.as_slice-row-items.result.now c.loop-row.row-index (omega arith) c.loop-row.invariant));
      columns = subst G c.as_slice-column-items.ensures (recursion_from_All _ _ (all_hold IsDecimalColumn c.as_slice-column-items.result.now c.loop-column.column-index (omega arith) c.loop-column.invariant));
    }

use Rattle.cgl_model.proofs.SideLaws.{sides_mean, feasible_sides, lower_meaning, upper_meaning, row_of}
use Rattle.std.proofs.Common.{length, arith}
use Rattle.cgl_model.specs.RowEntries.{row_entries}
use Rattle.cgl_model.proofs.ColumnLaws.{sides_below, entries_below, form_below}
use Rattle.cgl_model.proofs.FormListLaws.{found, shape_at}
use Rattle.cgl_model.proofs.RiseLaws.{entries_rise}
use Rattle.cgl_model.proofs.RisingLaws.{form_rising, sides_rising}
use Rattle.cgl_model.proofs.laws.sides_meaning.Goals as goal

pub returns-clause-ends : goal.returns-clause-ends
returns-clause-ends c = sides_mean

pub returns-clause-feasible : goal.returns-clause-feasible
returns-clause-feasible c = feasible_sides

pub returns-clause-lower : goal.returns-clause-lower
returns-clause-lower c = λ m x r row f h e. lower_meaning m x r row f h (row_of m.rows r row h.rows e)

pub returns-clause-upper : goal.returns-clause-upper
returns-clause-upper c = λ m x r row f h e. upper_meaning m x r row f h (row_of m.rows r row h.rows e)

pub returns-clause-columns : goal.returns-clause-columns
returns-clause-columns c = sides_below

pub returns-clause-row_columns : goal.returns-clause-row_columns
returns-clause-row_columns c = λ m r row f e. form_below (length m.cols) (row_entries m r) row f (entries_below (length m.cols) r 0 m.cols (omega arith)) e

pub returns-clause-shapes : goal.returns-clause-shapes
returns-clause-shapes c = shape_at

pub returns-clause-found : goal.returns-clause-found
returns-clause-found c = found

pub returns-clause-terms : goal.returns-clause-terms
returns-clause-terms c = sides_rising

pub returns-clause-row_terms : goal.returns-clause-row_terms
returns-clause-row_terms c = λ m r row f e. form_rising (row_entries m r) row f (entries_rise r 0 m.cols) e

use Rattle.std.proofs.Common.{◌≡◌, ◌∷◌, ◌++◌, length, drop}
use Rattle.cgl_text.specs.Seen.{owned_words}
use Rattle.cgl_mps.specs.Made.{made_columns}
use Rattle.cgl_mps.proofs.made.columns_of.Given as goal

abbrev pub invariant-loop-name : goal.invariant-loop-name
invariant-loop-name l = record {
  made : l.made.items ≡ made_columns (owned_words l.yielded) l.initial.columns.rest.items l.bounds.columns;
  columns : l.columns.rest.items ≡ drop (length l.made.items) l.initial.columns.rest.items;
}

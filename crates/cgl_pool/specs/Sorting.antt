-- The order by which cuts are sorted: by their inequalities, and then by their keys.
use Rattle.std.specs.Ordering.{ordering_then}
use Rattle.std.specs.declared.cmp.Ordering.{Ordering}
use Rattle.cgl_pool.specs.declared.kept.Kept.{Kept}
use Rattle.cgl_pool.specs.Listed.{cut_cmp, key_cmp}

abbrev pub kept_cmp : Kept → Kept → Ordering
kept_cmp a b = ordering_then (cut_cmp a b) (key_cmp a.key b.key)

-- What a shelf in memory holds.
use Rattle.std.specs.Prelude.{ℕ, List, map as each, String, Vec}
use Rattle.std.specs.declared.alloc.Global.{Global}
use Rattle.std.specs.String.{string_bytes}
use Rattle.std.specs.BTreeMap.{BTreeMap}
use Rattle.std.specs.FinMap as map
use Rattle.cgl_outside.specs.Shelf.{Files}

abbrev pub Tree : Type 0
Tree = BTreeMap (String Global) (Vec ℕ Global)

abbrev pub entry_of : String Global × Vec ℕ Global → List ℕ × List ℕ
entry_of e = (string_bytes e.0, e.1.items)

unfoldable pub files_of : Tree → Files
files_of m = map.from_entries (each entry_of m.entries)

-- Words, which are bytes, and the bytes that part them.
use Rattle.std.specs.Prelude.{ℕ, ◌==◌, Bool, ◌||◌, List, bytes_eq}
use Rattle.std.specs.List.{list_any}
use Rattle.cgl_num.specs.NumberText.{Word}

-- space, tab and CR
abbrev pub is_blank : ℕ → Bool
is_blank b = b == 32 || b == 9 || b == 13

abbrev pub is_one_of : List Word → Word → Bool
is_one_of words word = list_any (bytes_eq word) words

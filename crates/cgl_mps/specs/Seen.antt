-- Words of a line, and the kinds of bounds they mean.
use Rattle.std.specs.Prelude.{ℕ, List, [], bytes_eq, find, Option, option_map, unwrap_or, slice_get}
use denote.Ref.{Bor}
use Rattle.cgl_num.specs.NumberText.{Word}
use Rattle.cgl_text.specs.Seen.{words}
use Rattle.cgl_decode.specs.declared.kinds.BoundKind.{BoundKind}
use Rattle.cgl_decode.specs.Sections.{bound_kinds}

-- the word at place k, or an empty one
abbrev pub word_at : ℕ → List (Bor (List ℕ)) → Word
word_at k fields = unwrap_or (slice_get (words fields) k) []

-- the kind that a word of BOUNDS means
abbrev pub bound_kind : Word → Option BoundKind
bound_kind text = option_map (λ k. k.1) (find (λ k. bytes_eq text k.0) bound_kinds)

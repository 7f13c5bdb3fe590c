-- Lines and fields of a text.
use Rattle.std.specs.Prelude.{ℕ, ◌+◌, ◌^◌, ◌==◌, nat_lt, Bool, true, false, ◌&&◌, if◌then◌else◌, List, [], ◌∷◌, length, take}
use Rattle.std.specs.List.{onto_first}
use Rattle.cgl_num.specs.NumberText.{Word}
pub use Rattle.cgl_num.specs.Words.{is_blank, is_one_of}

-- each LF ends a line, and the last line may lack it
abbrev pub lines_of : List ℕ → List (List ℕ)
lines_of [] = []
lines_of (b ∷ bytes) = if b == 10 then [] ∷ lines_of bytes else onto_first b (lines_of bytes)

-- how many bytes a text may have
abbrev pub most_bytes : ℕ
most_bytes = 2 ^ 30

-- the byte past the limit stands in line n, from 1
abbrev pub is_over : ℕ → List ℕ → ℕ → Bool
is_over most bytes n = nat_lt most (length bytes) && length (lines_of (take (most + 1) bytes)) == n

abbrev pub begins_blank : List ℕ → Bool
begins_blank [] = true
begins_blank (b ∷ bytes) = is_blank b

-- the longest runs of bytes that aren't blank
abbrev pub fields_of : List ℕ → List Word
fields_of [] = []
fields_of (b ∷ bytes) = if is_blank b then fields_of bytes else if begins_blank bytes then (b ∷ []) ∷ fields_of bytes else onto_first b (fields_of bytes)

-- the fields of a line; a comment has none
abbrev pub kept_fields : List ℕ → List Word
kept_fields [] = []
kept_fields (b ∷ bytes) = if b == 42 then [] else fields_of (b ∷ bytes)

abbrev pub no_field : List Word → Bool
no_field [] = true
no_field (word ∷ words) = false

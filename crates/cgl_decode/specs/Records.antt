-- The records of a deck: its lines up to ENDATA, each with its number, its section and its fields.
use Rattle.std.specs.Prelude.{ℕ, ◌+◌, ◌==◌, nat_lt, Bool, ◌&&◌, not, if◌then◌else◌, List, [], ◌∷◌, codes, bytes_eq, length, find, filter, unwrap_or, option_map, slice_get}
use Rattle.std.specs.List.{list_any}
use Rattle.cgl_decode.specs.declared.kinds.Section.{Section}
use Rattle.cgl_decode.specs.declared.kinds.Section.TheVariants.{Start, Name, Sense, Rows, Columns, Rhs, Ranges, Bounds, End, Unsupported, Unknown}
use Rattle.cgl_num.specs.NumberText.{Word}
use Rattle.cgl_text.specs.Text.{begins_blank, lines_of, is_one_of}
pub use Rattle.cgl_text.specs.Text.{kept_fields, no_field}

abbrev pub place : Section → ℕ
place Start = 0
place Name = 1
place Sense = 2
place Rows = 3
place Columns = 4
place Rhs = 5
place Ranges = 6
place Bounds = 7
place End = 8
place Unsupported = 9
place Unknown = 10

abbrev pub same_section : Section → Section → Bool
same_section a b = place a == place b

abbrev pub sections : List (Word × Section)
sections = (codes "NAME", Name) ∷ (codes "OBJSENSE", Sense) ∷ (codes "ROWS", Rows) ∷ (codes "COLUMNS", Columns) ∷ (codes "RHS", Rhs) ∷ (codes "RANGES", Ranges) ∷ (codes "BOUNDS", Bounds) ∷ (codes "ENDATA", End) ∷ []

abbrev pub unsupported : List Word
unsupported = codes "SOS" ∷ codes "SOS1" ∷ codes "SOS2" ∷ codes "QUADOBJ" ∷ codes "QMATRIX" ∷ codes "QSECTION" ∷ codes "QCMATRIX" ∷ codes "INDICATORS" ∷ codes "CSECTION" ∷ codes "LAZYCONS" ∷ codes "USERCUTS" ∷ codes "OBJNAME" ∷ []

-- the section that a header's word opens
abbrev pub section_named : Word → Section
section_named word = unwrap_or (option_map (λ s. s.1) (find (λ s. bytes_eq word s.0) sections)) (if is_one_of unsupported word then Unsupported else Unknown)

-- a line; a header stands in the section that it opens, and a line that is ignored has no fields
pub record Record : Type 0 where
  pub line : ℕ
  pub bytes : ℕ
  pub section : Section
  pub header : Bool
  pub fields : List Word

abbrev pub field : ℕ → Record → Word
field k r = unwrap_or (slice_get r.fields k) []

abbrev pub first_word : List Word → Word
first_word [] = []
first_word (word ∷ words) = word

abbrev pub is_header : List ℕ → Bool
is_header line = not (begins_blank line) && not (no_field (kept_fields line))

-- the section in which a line stands, after that of the line before
abbrev pub section_after : Section → List ℕ → Section
section_after section line = if is_header line then section_named (first_word (kept_fields line)) else section

abbrev pub record_of : ℕ → Section → List ℕ → Record
record_of n section line = record { line = n; bytes = length line; section = section; header = is_header line; fields = kept_fields line }

abbrev pub records_from : ℕ → Section → List (List ℕ) → List Record
records_from n section [] = []
records_from n section (line ∷ lines) = record_of n (section_after section line) line ∷ records_from (n + 1) (section_after section line) lines

abbrev pub is_end : Record → Bool
is_end r = same_section r.section End

-- these up to and with the ENDATA line, or all
abbrev pub up_to_end : List Record → List Record
up_to_end [] = []
up_to_end (r ∷ records) = r ∷ (if is_end r then [] else up_to_end records)

abbrev pub records : List ℕ → List Record
records bytes = up_to_end (records_from 1 Start (lines_of bytes))

abbrev pub is_kept : Record → Bool
is_kept r = not (no_field r.fields)

abbrev pub kept : List Record → List Record
kept records = filter is_kept records

-- those of the lines before line n
abbrev pub before : ℕ → List Record → List Record
before n records = filter (λ r. nat_lt r.line n) records

-- the data lines of a section
abbrev pub data_in : Section → List Record → List Record
data_in section records = filter (λ r. not r.header && same_section section r.section) records

abbrev pub has_header : Section → List Record → Bool
has_header section records = list_any (λ r. r.header && same_section section r.section) records

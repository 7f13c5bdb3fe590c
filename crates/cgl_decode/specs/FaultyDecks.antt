-- Decks with a fault, and its line and kind.
use Rattle.std.specs.Prelude.{ℕ, List, [], ◌∷◌, ◌++◌, codes, replicate}
use Rattle.cgl_decode.specs.Decode.{deck_limits, Outcome, Fault}
use Rattle.cgl_decode.specs.Faults.{Limits}
use Rattle.cgl_decode.specs.Written.{text, Means}

abbrev pub small_limits : Limits
small_limits = record { bytes = 60; rows = 2; columns = 2; entries = 3 }

-- the headers: their words, their order and their fields
abbrev pub headers : List (List ℕ × Outcome)
headers =
    -- an unknown word
    (text (codes "NAME" ∷ codes "ROWZ" ∷ []), Fault 2 1)
    -- lower case is another word
    ∷ (text (codes "NAME" ∷ codes "rows" ∷ []), Fault 2 1)
    -- a word that is not supported, also with a field
    ∷ (text (codes "NAME" ∷ codes "SOS1 x" ∷ []), Fault 2 9)
    -- OBJNAME too
    ∷ (text (codes "OBJNAME" ∷ []), Fault 1 9)
    -- a lower rank after a higher one
    ∷ (text (codes "ROWS" ∷ codes "NAME" ∷ []), Fault 2 2)
    -- twice
    ∷ (text (codes "ROWS" ∷ codes "ROWS" ∷ []), Fault 2 2)
    -- COLUMNS without ROWS
    ∷ (text (codes "NAME" ∷ codes "COLUMNS" ∷ []), Fault 2 2)
    -- RHS without COLUMNS
    ∷ (text (codes "ROWS" ∷ codes "RHS" ∷ []), Fault 2 2)
    -- OBJSENSE after ROWS
    ∷ (text (codes "ROWS" ∷ codes "OBJSENSE" ∷ []), Fault 2 2)
    -- RHS, RANGES and BOUNDS in any order, and each once
    ∷ (text (codes "ROWS" ∷ codes "COLUMNS" ∷ codes "BOUNDS" ∷ codes "RANGES" ∷ codes "RHS" ∷ codes "BOUNDS" ∷ []), Fault 6 2)
    -- twice and with a field: order first
    ∷ (text (codes "ROWS" ∷ codes "ROWS x" ∷ []), Fault 2 2)
    -- unknown and with a field: the word first
    ∷ (text (codes "ROWS" ∷ codes "ROW x" ∷ []), Fault 2 1)
    -- a field too many
    ∷ (text (codes "ROWS x" ∷ []), Fault 1 3)
    -- ENDATA with a field
    ∷ (text (codes "ROWS" ∷ codes "ENDATA x" ∷ []), Fault 2 3)
    -- no such sense
    ∷ (text (codes "OBJSENSE MAXIMAL" ∷ []), Fault 1 3)
    -- three fields of OBJSENSE
    ∷ (text (codes "OBJSENSE MAX x" ∷ []), Fault 1 3)
    -- a data line before any header
    ∷ (text (codes "* a comment" ∷ codes "" ∷ codes " L R1" ∷ []), Fault 3 2)
    -- a data line after NAME
    ∷ (text (codes "NAME X" ∷ codes " MAX" ∷ []), Fault 2 2)
    -- a sense after the one on the header
    ∷ (text (codes "OBJSENSE MAX" ∷ codes " MIN" ∷ []), Fault 2 2)
    -- a second sense
    ∷ (text (codes "OBJSENSE" ∷ codes " MAX" ∷ codes " MIN" ∷ []), Fault 3 2)
    -- a second sense out of form: order first
    ∷ (text (codes "OBJSENSE" ∷ codes " MAX" ∷ codes " x y" ∷ []), Fault 3 2)
    -- a sense in two fields
    ∷ (text (codes "OBJSENSE" ∷ codes " MAX x" ∷ []), Fault 2 3)
    ∷ []

abbrev pub Headers : Type 0
Headers = Means deck_limits headers

-- decks that do not end, and lines that are not read
abbrev pub ends : List (List ℕ × Outcome)
ends =
    -- no ENDATA
    (text (codes "NAME X" ∷ codes "ROWS" ∷ []), Fault 3 10)
    -- nothing
    ∷ (text ([]), Fault 1 10)
    -- comments count as lines
    ∷ (text (codes "NAME X" ∷ codes "* a" ∷ codes "" ∷ []), Fault 4 10)
    -- a fault comes before the end that is lacking
    ∷ (text (codes "NAME X" ∷ codes "ROWS" ∷ codes " Q R1" ∷ []), Fault 3 3)
    ∷ []

abbrev pub Ends : Type 0
Ends = Means deck_limits ends

-- ROWS
abbrev pub row_faults : List (List ℕ × Outcome)
row_faults =
    -- one field
    (text (codes "ROWS" ∷ codes " L" ∷ []), Fault 2 3)
    -- three fields
    ∷ (text (codes "ROWS" ∷ codes " L R1 R2" ∷ []), Fault 2 3)
    -- no such kind
    ∷ (text (codes "ROWS" ∷ codes " l R1" ∷ []), Fault 2 3)
    -- no such kind, and the name 'MARKER': the kind first
    ∷ (text (codes "ROWS" ∷ codes " Q 'MARKER'" ∷ []), Fault 2 3)
    -- the name 'MARKER'
    ∷ (text (codes "ROWS" ∷ codes " L 'MARKER'" ∷ []), Fault 2 9)
    -- a repeated name, whatever the kind
    ∷ (text (codes "ROWS" ∷ codes " L R1" ∷ codes " N R1" ∷ []), Fault 3 7)
    ∷ []

abbrev pub RowFaults : Type 0
RowFaults = Means deck_limits row_faults

-- COLUMNS
abbrev pub column_faults : List (List ℕ × Outcome)
column_faults =
    -- four fields
    (text (codes "NAME X" ∷ codes "ROWS" ∷ codes " N OBJ" ∷ codes " L R1" ∷ codes " G R2" ∷ codes "COLUMNS" ∷ codes " x OBJ 1 R1" ∷ []), Fault 7 3)
    -- two fields
    ∷ (text (codes "NAME X" ∷ codes "ROWS" ∷ codes " N OBJ" ∷ codes " L R1" ∷ codes " G R2" ∷ codes "COLUMNS" ∷ codes " x OBJ" ∷ []), Fault 7 3)
    -- another marker word
    ∷ (text (codes "NAME X" ∷ codes "ROWS" ∷ codes " N OBJ" ∷ codes " L R1" ∷ codes " G R2" ∷ codes "COLUMNS" ∷ codes " M 'MARKER' 'INTOR'" ∷ []), Fault 7 9)
    -- five fields with the marker second are an ordinary line
    ∷ (text (codes "NAME X" ∷ codes "ROWS" ∷ codes " N OBJ" ∷ codes " L R1" ∷ codes " G R2" ∷ codes "COLUMNS" ∷ codes " x 'MARKER' 1 R1 1" ∷ []), Fault 7 5)
    -- an unknown row
    ∷ (text (codes "NAME X" ∷ codes "ROWS" ∷ codes " N OBJ" ∷ codes " L R1" ∷ codes " G R2" ∷ codes "COLUMNS" ∷ codes " x R9 1" ∷ []), Fault 7 5)
    -- an unknown row and no number: the row first
    ∷ (text (codes "NAME X" ∷ codes "ROWS" ∷ codes " N OBJ" ∷ codes " L R1" ∷ codes " G R2" ∷ codes "COLUMNS" ∷ codes " x R9 ." ∷ []), Fault 7 5)
    -- no number in the first pair, an unknown row in the second: the first pair first
    ∷ (text (codes "NAME X" ∷ codes "ROWS" ∷ codes " N OBJ" ∷ codes " L R1" ∷ codes " G R2" ∷ codes "COLUMNS" ∷ codes " x R1 . R9 1" ∷ []), Fault 7 4)
    -- a good first pair, and an unknown row and no number in the second
    ∷ (text (codes "NAME X" ∷ codes "ROWS" ∷ codes " N OBJ" ∷ codes " L R1" ∷ codes " G R2" ∷ codes "COLUMNS" ∷ codes " x R1 1 R9 ." ∷ []), Fault 7 5)
    -- a row twice in one line, the second time without a number
    ∷ (text (codes "NAME X" ∷ codes "ROWS" ∷ codes " N OBJ" ∷ codes " L R1" ∷ codes " G R2" ∷ codes "COLUMNS" ∷ codes " x R1 1 R1 ." ∷ []), Fault 7 7)
    -- a row twice, on lines that stand together
    ∷ (text (codes "NAME P9" ∷ codes "ROWS" ∷ codes " L R1" ∷ codes "COLUMNS" ∷ codes " x R1 1" ∷ codes " x R1 2" ∷ []), Fault 6 7)
    -- no digit
    ∷ (text (codes "NAME X" ∷ codes "ROWS" ∷ codes " N OBJ" ∷ codes " L R1" ∷ codes " G R2" ∷ codes "COLUMNS" ∷ codes " x OBJ ." ∷ []), Fault 7 4)
    -- two points
    ∷ (text (codes "NAME X" ∷ codes "ROWS" ∷ codes " N OBJ" ∷ codes " L R1" ∷ codes " G R2" ∷ codes "COLUMNS" ∷ codes " x OBJ 1.2.3" ∷ []), Fault 7 4)
    -- an exponent without a digit
    ∷ (text (codes "NAME X" ∷ codes "ROWS" ∷ codes " N OBJ" ∷ codes " L R1" ∷ codes " G R2" ∷ codes "COLUMNS" ∷ codes " x OBJ 1e" ∷ []), Fault 7 4)
    -- two signs
    ∷ (text (codes "NAME X" ∷ codes "ROWS" ∷ codes " N OBJ" ∷ codes " L R1" ∷ codes " G R2" ∷ codes "COLUMNS" ∷ codes " x OBJ +-1" ∷ []), Fault 7 4)
    -- 10^36
    ∷ (text (codes "NAME X" ∷ codes "ROWS" ∷ codes " N OBJ" ∷ codes " L R1" ∷ codes " G R2" ∷ codes "COLUMNS" ∷ codes " x OBJ 1e36" ∷ []), Fault 7 4)
    -- 31 decimals
    ∷ (text (codes "NAME X" ∷ codes "ROWS" ∷ codes " N OBJ" ∷ codes " L R1" ∷ codes " G R2" ∷ codes "COLUMNS" ∷ codes " x OBJ 1e-31" ∷ []), Fault 7 4)
    -- 25 digits
    ∷ (text (codes "NAME X" ∷ codes "ROWS" ∷ codes " N OBJ" ∷ codes " L R1" ∷ codes " G R2" ∷ codes "COLUMNS" ∷ codes " x OBJ 1000000000000000000000001" ∷ []), Fault 7 4)
    -- a split column
    ∷ (text (codes "NAME X" ∷ codes "ROWS" ∷ codes " N OBJ" ∷ codes " L R1" ∷ codes " G R2" ∷ codes "COLUMNS" ∷ codes " x OBJ 1 R1 2" ∷ codes " y OBJ 1" ∷ codes " x R2 1" ∷ []), Fault 9 8)
    -- a split column with an unknown row: the column first
    ∷ (text (codes "NAME X" ∷ codes "ROWS" ∷ codes " N OBJ" ∷ codes " L R1" ∷ codes " G R2" ∷ codes "COLUMNS" ∷ codes " x OBJ 1 R1 2" ∷ codes " y OBJ 1" ∷ codes " x R9 1" ∷ []), Fault 9 8)
    -- a column split by a marker
    ∷ (text (codes "NAME X" ∷ codes "ROWS" ∷ codes " N OBJ" ∷ codes " L R1" ∷ codes " G R2" ∷ codes "COLUMNS" ∷ codes " x OBJ 1 R1 2" ∷ codes " M 'MARKER' 'INTEND'" ∷ codes " x R2 1" ∷ []), Fault 9 8)
    -- a split column, with a pair that stands already: the column first
    ∷ (text (codes "NAME X" ∷ codes "ROWS" ∷ codes " N OBJ" ∷ codes " L R1" ∷ codes " G R2" ∷ codes "COLUMNS" ∷ codes " x OBJ 1 R1 2" ∷ codes " y OBJ 1" ∷ codes " x R1 1" ∷ []), Fault 9 8)
    ∷ []

abbrev pub ColumnFaults : Type 0
ColumnFaults = Means deck_limits column_faults

-- RHS and RANGES
abbrev pub set_faults : List (List ℕ × Outcome)
set_faults =
    -- one field
    (text (codes "NAME X" ∷ codes "ROWS" ∷ codes " N OBJ" ∷ codes " L R1" ∷ codes " G R2" ∷ codes "COLUMNS" ∷ codes " x OBJ 1 R1 2" ∷ codes "RHS" ∷ codes " R1" ∷ []), Fault 9 3)
    -- six fields
    ∷ (text (codes "NAME X" ∷ codes "ROWS" ∷ codes " N OBJ" ∷ codes " L R1" ∷ codes " G R2" ∷ codes "COLUMNS" ∷ codes " x OBJ 1 R1 2" ∷ codes "RHS" ∷ codes " S R1 1 R2 1 R1" ∷ []), Fault 9 3)
    -- an unknown row
    ∷ (text (codes "NAME X" ∷ codes "ROWS" ∷ codes " N OBJ" ∷ codes " L R1" ∷ codes " G R2" ∷ codes "COLUMNS" ∷ codes " x OBJ 1 R1 2" ∷ codes "RHS" ∷ codes " S R9 1" ∷ []), Fault 9 5)
    -- a row twice
    ∷ (text (codes "NAME X" ∷ codes "ROWS" ∷ codes " N OBJ" ∷ codes " L R1" ∷ codes " G R2" ∷ codes "COLUMNS" ∷ codes " x OBJ 1 R1 2" ∷ codes "RHS" ∷ codes " S R1 5" ∷ codes " S R1 6" ∷ []), Fault 10 7)
    -- a row twice in one line
    ∷ (text (codes "NAME X" ∷ codes "ROWS" ∷ codes " N OBJ" ∷ codes " L R1" ∷ codes " G R2" ∷ codes "COLUMNS" ∷ codes " x OBJ 1 R1 2" ∷ codes "RANGES" ∷ codes " R1 6 R1 7" ∷ []), Fault 9 7)
    -- no number
    ∷ (text (codes "NAME X" ∷ codes "ROWS" ∷ codes " N OBJ" ∷ codes " L R1" ∷ codes " G R2" ∷ codes "COLUMNS" ∷ codes " x OBJ 1 R1 2" ∷ codes "RHS" ∷ codes " S R1 x" ∷ []), Fault 9 4)
    -- in a set that does not count, an unknown row and a repeat are no fault, and no number is one
    ∷ (text (codes "NAME X" ∷ codes "ROWS" ∷ codes " N OBJ" ∷ codes " L R1" ∷ codes " G R2" ∷ codes "COLUMNS" ∷ codes " x OBJ 1 R1 2" ∷ codes "RHS" ∷ codes " S R1 5" ∷ codes " T R9 1" ∷ codes " T R1 1" ∷ codes " T R1 1" ∷ codes " R1 1" ∷ codes " T R9 x" ∷ []), Fault 14 4)
    -- in a set that does not count, no number before a wrong count of fields two lines on
    ∷ (text (codes "NAME X" ∷ codes "ROWS" ∷ codes " N OBJ" ∷ codes " L R1" ∷ codes " G R2" ∷ codes "COLUMNS" ∷ codes " x OBJ 1 R1 2" ∷ codes "RHS" ∷ codes " S R1 5" ∷ codes " T R9 x" ∷ codes " T" ∷ []), Fault 10 4)
    -- the form counts for each set
    ∷ (text (codes "NAME X" ∷ codes "ROWS" ∷ codes " N OBJ" ∷ codes " L R1" ∷ codes " G R2" ∷ codes "COLUMNS" ∷ codes " x OBJ 1 R1 2" ∷ codes "RHS" ∷ codes " S R1 5" ∷ codes " T" ∷ []), Fault 10 3)
    -- right sides and ranges have sets of their own
    ∷ (text (codes "NAME X" ∷ codes "ROWS" ∷ codes " N OBJ" ∷ codes " L R1" ∷ codes " G R2" ∷ codes "COLUMNS" ∷ codes " x OBJ 1 R1 2" ∷ codes "RHS" ∷ codes " S R1 5" ∷ codes "RANGES" ∷ codes " T R1 5" ∷ codes " S R9 1" ∷ codes " T R9 1" ∷ []), Fault 13 5)
    ∷ []

abbrev pub SetFaults : Type 0
SetFaults = Means deck_limits set_faults

-- BOUNDS
abbrev pub bound_faults : List (List ℕ × Outcome)
bound_faults =
    -- semi-continuous
    (text (codes "NAME X" ∷ codes "ROWS" ∷ codes " N OBJ" ∷ codes " L R1" ∷ codes " G R2" ∷ codes "COLUMNS" ∷ codes " x OBJ 1 R1 2" ∷ codes "BOUNDS" ∷ codes " SC" ∷ []), Fault 9 9)
    -- no such kind
    ∷ (text (codes "NAME X" ∷ codes "ROWS" ∷ codes " N OBJ" ∷ codes " L R1" ∷ codes " G R2" ∷ codes "COLUMNS" ∷ codes " x OBJ 1 R1 2" ∷ codes "BOUNDS" ∷ codes " XX B x 1" ∷ []), Fault 9 3)
    -- UP without a value
    ∷ (text (codes "NAME X" ∷ codes "ROWS" ∷ codes " N OBJ" ∷ codes " L R1" ∷ codes " G R2" ∷ codes "COLUMNS" ∷ codes " x OBJ 1 R1 2" ∷ codes "BOUNDS" ∷ codes " UP x" ∷ []), Fault 9 3)
    -- five fields
    ∷ (text (codes "NAME X" ∷ codes "ROWS" ∷ codes " N OBJ" ∷ codes " L R1" ∷ codes " G R2" ∷ codes "COLUMNS" ∷ codes " x OBJ 1 R1 2" ∷ codes "BOUNDS" ∷ codes " FR B x 1 2" ∷ []), Fault 9 3)
    -- an unknown column
    ∷ (text (codes "NAME X" ∷ codes "ROWS" ∷ codes " N OBJ" ∷ codes " L R1" ∷ codes " G R2" ∷ codes "COLUMNS" ∷ codes " x OBJ 1 R1 2" ∷ codes "BOUNDS" ∷ codes " UP B y 1" ∷ []), Fault 9 6)
    -- an unknown column and no number: the column first
    ∷ (text (codes "NAME X" ∷ codes "ROWS" ∷ codes " N OBJ" ∷ codes " L R1" ∷ codes " G R2" ∷ codes "COLUMNS" ∷ codes " x OBJ 1 R1 2" ∷ codes "BOUNDS" ∷ codes " UP B y ." ∷ []), Fault 9 6)
    -- three fields after FR are set and column
    ∷ (text (codes "NAME X" ∷ codes "ROWS" ∷ codes " N OBJ" ∷ codes " L R1" ∷ codes " G R2" ∷ codes "COLUMNS" ∷ codes " x OBJ 1 R1 2" ∷ codes "BOUNDS" ∷ codes " MI x 5" ∷ []), Fault 9 6)
    -- no number
    ∷ (text (codes "NAME X" ∷ codes "ROWS" ∷ codes " N OBJ" ∷ codes " L R1" ∷ codes " G R2" ∷ codes "COLUMNS" ∷ codes " x OBJ 1 R1 2" ∷ codes "BOUNDS" ∷ codes " UP B x ." ∷ []), Fault 9 4)
    -- an infinite lower bound
    ∷ (text (codes "NAME X" ∷ codes "ROWS" ∷ codes " N OBJ" ∷ codes " L R1" ∷ codes " G R2" ∷ codes "COLUMNS" ∷ codes " x OBJ 1 R1 2" ∷ codes "BOUNDS" ∷ codes " LO BND x 1e30" ∷ []), Fault 9 4)
    -- a fixed value that is infinite
    ∷ (text (codes "NAME X" ∷ codes "ROWS" ∷ codes " N OBJ" ∷ codes " L R1" ∷ codes " G R2" ∷ codes "COLUMNS" ∷ codes " x OBJ 1 R1 2" ∷ codes "BOUNDS" ∷ codes " FX BND x 1e20" ∷ []), Fault 9 4)
    -- an upper bound of minus infinity
    ∷ (text (codes "NAME X" ∷ codes "ROWS" ∷ codes " N OBJ" ∷ codes " L R1" ∷ codes " G R2" ∷ codes "COLUMNS" ∷ codes " x OBJ 1 R1 2" ∷ codes "BOUNDS" ∷ codes " UP BND x -1e20" ∷ []), Fault 9 4)
    -- a value after FR out of form
    ∷ (text (codes "NAME X" ∷ codes "ROWS" ∷ codes " N OBJ" ∷ codes " L R1" ∷ codes " G R2" ∷ codes "COLUMNS" ∷ codes " x OBJ 1 R1 2" ∷ codes "BOUNDS" ∷ codes " FR BND x ." ∷ []), Fault 9 4)
    -- in a set that does not count, an unknown column is no fault, and a wrongly infinite value is one
    ∷ (text (codes "NAME X" ∷ codes "ROWS" ∷ codes " N OBJ" ∷ codes " L R1" ∷ codes " G R2" ∷ codes "COLUMNS" ∷ codes " x OBJ 1 R1 2" ∷ codes "BOUNDS" ∷ codes " UP B x 1" ∷ codes " UP C y 1" ∷ codes " LO C x 1e30" ∷ []), Fault 11 4)
    -- semi-continuous in any set
    ∷ (text (codes "NAME X" ∷ codes "ROWS" ∷ codes " N OBJ" ∷ codes " L R1" ∷ codes " G R2" ∷ codes "COLUMNS" ∷ codes " x OBJ 1 R1 2" ∷ codes "BOUNDS" ∷ codes " UP B x 1" ∷ codes " SI C x 1" ∷ []), Fault 10 9)
    ∷ []

abbrev pub BoundFaults : Type 0
BoundFaults = Means deck_limits bound_faults

-- lines over 4,096 and names over 255 bytes
abbrev pub long_faults : List (List ℕ × Outcome)
long_faults =
    -- a comment of 4,097 bytes
    (text (codes "NAME X" ∷ (42 ∷ replicate 4096 120) ∷ []), Fault 2 11)
    -- an unknown word of 4,097 bytes: the length first
    ∷ (text (codes "NAME X" ∷ (65 ∷ replicate 4096 120) ∷ []), Fault 2 11)
    -- a row name of 256 bytes
    ∷ (text (codes "ROWS" ∷ (codes " L " ++ replicate 256 110) ∷ []), Fault 2 11)
    -- a model name of 256 bytes
    ∷ (text ((codes "NAME " ++ replicate 256 110) ∷ []), Fault 1 11)
    -- a column name of 256 bytes, before its unknown row
    ∷ (text (codes "ROWS" ∷ codes "COLUMNS" ∷ (codes " " ++ replicate 256 110 ++ codes " R9 1") ∷ []), Fault 3 11)
    ∷ []

abbrev pub LongFaults : Type 0
LongFaults = Means deck_limits long_faults

-- the limits, for decks of two rows, two columns, three entries and 60 bytes
abbrev pub full : List (List ℕ × Outcome)
full =
    -- a third row
    (text (codes "ROWS" ∷ codes " N A" ∷ codes " L B" ∷ codes " L C" ∷ []), Fault 4 12)
    -- a repeated row beyond the limit: the repeat first
    ∷ (text (codes "ROWS" ∷ codes " N A" ∷ codes " L B" ∷ codes " L B" ∷ []), Fault 4 7)
    -- a third column
    ∷ (text (codes "ROWS" ∷ codes " N A" ∷ codes " L B" ∷ codes "COLUMNS" ∷ codes " x A 1" ∷ codes " y A 1" ∷ codes " z A 1" ∷ []), Fault 7 12)
    -- a fourth entry, in the second pair
    ∷ (text (codes "ROWS" ∷ codes " N A" ∷ codes " L B" ∷ codes "COLUMNS" ∷ codes " x A 1 B 1" ∷ codes " y A 1 B 1" ∷ []), Fault 6 12)
    -- a fourth entry without a number: the number first
    ∷ (text (codes "ROWS" ∷ codes " N A" ∷ codes " L B" ∷ codes "COLUMNS" ∷ codes " x A 1 B 1" ∷ codes " y A 1 B ." ∷ []), Fault 6 4)
    -- the byte 61 stands in the second line, before its own fault
    ∷ (text (codes "*xxxxxxxxxxxxxxxxxxxxxxxxxxxxxxxxxxxxxxxxxxxxxxxxxxxxxxxx" ∷ codes "ROWZ" ∷ []), Fault 2 12)
    -- the byte 61 is the LF of the second line
    ∷ (text (codes "*xxxxxxxxxxxxxxxxxxxxxxxxxxxxxxxxxxxxxxxxxxxxxxxxxxxxxx" ∷ codes "ROWS" ∷ []), Fault 2 12)
    -- 60 bytes are no fault
    ∷ (text (codes "*xxxxxxxxxxxxxxxxxxxxxxxxxxxxxxxxxxxxxxxxxxxxxxxxxxxxx" ∷ codes "ROWS" ∷ []), Fault 3 10)
    ∷ []

abbrev pub Full : Type 0
Full = Means small_limits full

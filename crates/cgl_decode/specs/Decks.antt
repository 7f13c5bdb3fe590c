-- Decks without a fault, and their models.
use Rattle.std.specs.Prelude.{◌≡◌, ℕ, pos, neg_ℤ, true, false, List, [], ◌∷◌, codes, Some, None}
use Rattle.cgl_model.specs.declared.mip.RowKind.TheVariants.{N, L, G, E}
use Rattle.cgl_model.specs.declared.mip.Model.{Model}
use Rattle.cgl_decode.specs.Decode.{decode, Deck}
use Rattle.cgl_decode.specs.Written.{text, without_last, dec, row, column}

-- a deck with three binary columns
abbrev pub first : List ℕ
first = text (codes "NAME P1" ∷ codes "ROWS" ∷ codes " N OBJ" ∷ codes " L R1" ∷ codes "COLUMNS" ∷ codes " a OBJ 1 R1 3" ∷ codes " b OBJ 1 R1 3" ∷ codes " c OBJ 1 R1 3" ∷ codes "RHS" ∷ codes " RHS R1 5" ∷ codes "BOUNDS" ∷ codes " BV BND a" ∷ codes " BV BND b" ∷ codes " BV BND c" ∷ codes "ENDATA" ∷ [])

abbrev pub first_model : Model
first_model = record {
  name = codes "P1";
  maximise = false;
  rows = row (codes "OBJ") N (dec (pos 0) (pos 0)) (None)
      ∷ row (codes "R1") L (dec (pos 5) (pos 0)) (None) ∷ [];
  cols = column (codes "a") true (Some (dec (pos 0) (pos 0))) (Some (dec (pos 1) (pos 0))) ((0, dec (pos 1) (pos 0)) ∷ (1, dec (pos 3) (pos 0)) ∷ [])
      ∷ column (codes "b") true (Some (dec (pos 0) (pos 0))) (Some (dec (pos 1) (pos 0))) ((0, dec (pos 1) (pos 0)) ∷ (1, dec (pos 3) (pos 0)) ∷ [])
      ∷ column (codes "c") true (Some (dec (pos 0) (pos 0))) (Some (dec (pos 1) (pos 0))) ((0, dec (pos 1) (pos 0)) ∷ (1, dec (pos 3) (pos 0)) ∷ []) ∷ [];
}

abbrev pub FirstDeck : Type 0
FirstDeck = decode first ≡ Deck first_model

-- a deck as a solver writes it: wide columns, markers, set names, a coefficient of 17 digits
abbrev pub solver : List ℕ
solver = text (codes "NAME          lotplan   FREE" ∷ codes "* written by a solver" ∷ codes "ROWS" ∷ codes " N  COST" ∷ codes " L  CAP" ∷ codes " L  S1" ∷ codes " L  S2" ∷ codes " L  KN" ∷ codes " L  INT" ∷ codes "COLUMNS" ∷ codes "    y1        COST      0.30000000000000004   CAP       1." ∷ codes "    y1        S1        1." ∷ codes "    y2        CAP       1.                    S2        1." ∷ codes "    MARK0000  'MARKER'                 'INTORG'" ∷ codes "    x1        COST      12.5                  S1        -4." ∷ codes "    x2        S2        -4." ∷ codes "    a         KN        3." ∷ codes "    b         KN        4." ∷ codes "    c         KN        5." ∷ codes "    k         INT       2." ∷ codes "    MARK0001  'MARKER'                 'INTEND'" ∷ codes "RHS" ∷ codes "    RHS       CAP       5.                    KN        8." ∷ codes "    RHS       INT       3." ∷ codes "BOUNDS" ∷ codes " UP BOUND     x1        1." ∷ codes " UP BOUND     x2        1." ∷ codes " UP BOUND     a         1." ∷ codes " UP BOUND     b         1." ∷ codes " UP BOUND     c         1." ∷ codes " UP BOUND     k         1e1" ∷ codes "ENDATA" ∷ [])

abbrev pub solver_model : Model
solver_model = record {
  name = codes "lotplan";
  maximise = false;
  rows = row (codes "COST") N (dec (pos 0) (pos 0)) (None)
      ∷ row (codes "CAP") L (dec (pos 5) (pos 0)) (None)
      ∷ row (codes "S1") L (dec (pos 0) (pos 0)) (None)
      ∷ row (codes "S2") L (dec (pos 0) (pos 0)) (None)
      ∷ row (codes "KN") L (dec (pos 8) (pos 0)) (None)
      ∷ row (codes "INT") L (dec (pos 3) (pos 0)) (None) ∷ [];
  cols = column (codes "y1") false (Some (dec (pos 0) (pos 0))) (None) ((0, dec (pos 30000000000000004) (neg_ℤ (pos 17))) ∷ (1, dec (pos 1) (pos 0)) ∷ (2, dec (pos 1) (pos 0)) ∷ [])
      ∷ column (codes "y2") false (Some (dec (pos 0) (pos 0))) (None) ((1, dec (pos 1) (pos 0)) ∷ (3, dec (pos 1) (pos 0)) ∷ [])
      ∷ column (codes "x1") true (Some (dec (pos 0) (pos 0))) (Some (dec (pos 1) (pos 0))) ((0, dec (pos 125) (neg_ℤ (pos 1))) ∷ (2, dec (neg_ℤ (pos 4)) (pos 0)) ∷ [])
      ∷ column (codes "x2") true (Some (dec (pos 0) (pos 0))) (Some (dec (pos 1) (pos 0))) ((3, dec (neg_ℤ (pos 4)) (pos 0)) ∷ [])
      ∷ column (codes "a") true (Some (dec (pos 0) (pos 0))) (Some (dec (pos 1) (pos 0))) ((4, dec (pos 3) (pos 0)) ∷ [])
      ∷ column (codes "b") true (Some (dec (pos 0) (pos 0))) (Some (dec (pos 1) (pos 0))) ((4, dec (pos 4) (pos 0)) ∷ [])
      ∷ column (codes "c") true (Some (dec (pos 0) (pos 0))) (Some (dec (pos 1) (pos 0))) ((4, dec (pos 5) (pos 0)) ∷ [])
      ∷ column (codes "k") true (Some (dec (pos 0) (pos 0))) (Some (dec (pos 1) (pos 1))) ((5, dec (pos 2) (pos 0)) ∷ []) ∷ [];
}

abbrev pub SolverDeck : Type 0
SolverDeck = decode solver ≡ Deck solver_model

-- the least deck; what follows ENDATA is unread
abbrev pub least : List ℕ
least = text (codes "ENDATA" ∷ codes "ROWZ" ∷ codes " x" ∷ [])

abbrev pub least_model : Model
least_model = record {
  name = codes "";
  maximise = false;
  rows = [];
  cols = [];
}

abbrev pub LeastDeck : Type 0
LeastDeck = decode least ≡ Deck least_model

-- a range below 0
abbrev pub range : List ℕ
range = text (codes "NAME P10" ∷ codes "ROWS" ∷ codes " E R1" ∷ codes "COLUMNS" ∷ codes " x R1 1" ∷ codes "RHS" ∷ codes " RHS R1 5" ∷ codes "RANGES" ∷ codes " RNG R1 -2" ∷ codes "ENDATA" ∷ [])

abbrev pub range_model : Model
range_model = record {
  name = codes "P10";
  maximise = false;
  rows = row (codes "R1") E (dec (pos 5) (pos 0)) (Some (dec (neg_ℤ (pos 2)) (pos 0))) ∷ [];
  cols = column (codes "x") false (Some (dec (pos 0) (pos 0))) (None) ((0, dec (pos 1) (pos 0)) ∷ []) ∷ [];
}

abbrev pub RangeDeck : Type 0
RangeDeck = decode range ≡ Deck range_model

-- an upper bound below 0 alone
abbrev pub below_zero : List ℕ
below_zero = text (codes "ROWS" ∷ codes " L R1" ∷ codes "COLUMNS" ∷ codes " x R1 1" ∷ codes "BOUNDS" ∷ codes " UP BND x -1" ∷ codes "ENDATA" ∷ [])

abbrev pub below_zero_model : Model
below_zero_model = record {
  name = codes "";
  maximise = false;
  rows = row (codes "R1") L (dec (pos 0) (pos 0)) (None) ∷ [];
  cols = column (codes "x") false (None) (Some (dec (neg_ℤ (pos 1)) (pos 0))) ((0, dec (pos 1) (pos 0)) ∷ []) ∷ [];
}

abbrev pub BelowZeroDeck : Type 0
BelowZeroDeck = decode below_zero ≡ Deck below_zero_model

-- with a lower bound first
abbrev pub zero_first : List ℕ
zero_first = text (codes "ROWS" ∷ codes " L R1" ∷ codes "COLUMNS" ∷ codes " x R1 1" ∷ codes "BOUNDS" ∷ codes " LO BND x 0" ∷ codes " UP BND x -1" ∷ codes "ENDATA" ∷ [])

abbrev pub zero_first_model : Model
zero_first_model = record {
  name = codes "";
  maximise = false;
  rows = row (codes "R1") L (dec (pos 0) (pos 0)) (None) ∷ [];
  cols = column (codes "x") false (Some (dec (pos 0) (pos 0))) (Some (dec (neg_ℤ (pos 1)) (pos 0))) ((0, dec (pos 1) (pos 0)) ∷ []) ∷ [];
}

abbrev pub ZeroFirstDeck : Type 0
ZeroFirstDeck = decode zero_first ≡ Deck zero_first_model

-- with a lower bound later
abbrev pub zero_later : List ℕ
zero_later = text (codes "ROWS" ∷ codes " L R1" ∷ codes "COLUMNS" ∷ codes " x R1 1" ∷ codes "BOUNDS" ∷ codes " UP BND x -1" ∷ codes " LO BND x 0" ∷ codes "ENDATA" ∷ [])

abbrev pub zero_later_model : Model
zero_later_model = record {
  name = codes "";
  maximise = false;
  rows = row (codes "R1") L (dec (pos 0) (pos 0)) (None) ∷ [];
  cols = column (codes "x") false (Some (dec (pos 0) (pos 0))) (Some (dec (neg_ℤ (pos 1)) (pos 0))) ((0, dec (pos 1) (pos 0)) ∷ []) ∷ [];
}

abbrev pub ZeroLaterDeck : Type 0
ZeroLaterDeck = decode zero_later ≡ Deck zero_later_model

-- an upper bound above 0 later leaves the lower bound infinite
abbrev pub above_later : List ℕ
above_later = text (codes "ROWS" ∷ codes " L R1" ∷ codes "COLUMNS" ∷ codes " x R1 1" ∷ codes "BOUNDS" ∷ codes " UP BND x -1" ∷ codes " UP BND x 3" ∷ codes "ENDATA" ∷ [])

abbrev pub above_later_model : Model
above_later_model = record {
  name = codes "";
  maximise = false;
  rows = row (codes "R1") L (dec (pos 0) (pos 0)) (None) ∷ [];
  cols = column (codes "x") false (None) (Some (dec (pos 3) (pos 0))) ((0, dec (pos 1) (pos 0)) ∷ []) ∷ [];
}

abbrev pub AboveLaterDeck : Type 0
AboveLaterDeck = decode above_later ≡ Deck above_later_model

-- -0 is not below 0
abbrev pub minus_zero : List ℕ
minus_zero = text (codes "ROWS" ∷ codes " L R1" ∷ codes "COLUMNS" ∷ codes " x R1 1" ∷ codes "BOUNDS" ∷ codes " UP BND x -0" ∷ codes "ENDATA" ∷ [])

abbrev pub minus_zero_model : Model
minus_zero_model = record {
  name = codes "";
  maximise = false;
  rows = row (codes "R1") L (dec (pos 0) (pos 0)) (None) ∷ [];
  cols = column (codes "x") false (Some (dec (pos 0) (pos 0))) (Some (dec (pos 0) (pos 0))) ((0, dec (pos 1) (pos 0)) ∷ []) ∷ [];
}

abbrev pub MinusZeroDeck : Type 0
MinusZeroDeck = decode minus_zero ≡ Deck minus_zero_model

-- an infinite lower bound counts as one that is set; the last UP counts
abbrev pub infinite_first : List ℕ
infinite_first = text (codes "ROWS" ∷ codes " L R1" ∷ codes "COLUMNS" ∷ codes " x R1 1" ∷ codes "BOUNDS" ∷ codes " LO BND x -1e25" ∷ codes " UP BND x -5" ∷ codes " UI BND x 1e30" ∷ codes "ENDATA" ∷ [])

abbrev pub infinite_first_model : Model
infinite_first_model = record {
  name = codes "";
  maximise = false;
  rows = row (codes "R1") L (dec (pos 0) (pos 0)) (None) ∷ [];
  cols = column (codes "x") true (None) (None) ((0, dec (pos 1) (pos 0)) ∷ []) ∷ [];
}

abbrev pub InfiniteFirstDeck : Type 0
InfiniteFirstDeck = decode infinite_first ≡ Deck infinite_first_model

-- BV after UP
abbrev pub binary_later : List ℕ
binary_later = text (codes "ROWS" ∷ codes " L R1" ∷ codes "COLUMNS" ∷ codes " x R1 1" ∷ codes "BOUNDS" ∷ codes " UP BND x -7" ∷ codes " BV BND x" ∷ codes "ENDATA" ∷ [])

abbrev pub binary_later_model : Model
binary_later_model = record {
  name = codes "";
  maximise = false;
  rows = row (codes "R1") L (dec (pos 0) (pos 0)) (None) ∷ [];
  cols = column (codes "x") true (Some (dec (pos 0) (pos 0))) (Some (dec (pos 1) (pos 0))) ((0, dec (pos 1) (pos 0)) ∷ []) ∷ [];
}

abbrev pub BinaryLaterDeck : Type 0
BinaryLaterDeck = decode binary_later ≡ Deck binary_later_model

-- BV, then UP, then PL: the bounds are 0 and infinite, and the column stays integer
abbrev pub binary_first : List ℕ
binary_first = text (codes "ROWS" ∷ codes " L R1" ∷ codes "COLUMNS" ∷ codes " x R1 1" ∷ codes "BOUNDS" ∷ codes " BV BND x" ∷ codes " UP BND x -7" ∷ codes " PL BND x" ∷ codes "ENDATA" ∷ [])

abbrev pub binary_first_model : Model
binary_first_model = record {
  name = codes "";
  maximise = false;
  rows = row (codes "R1") L (dec (pos 0) (pos 0)) (None) ∷ [];
  cols = column (codes "x") true (Some (dec (pos 0) (pos 0))) (None) ((0, dec (pos 1) (pos 0)) ∷ []) ∷ [];
}

abbrev pub BinaryFirstDeck : Type 0
BinaryFirstDeck = decode binary_first ≡ Deck binary_first_model

-- FR, with a value whose size is not looked at
abbrev pub free : List ℕ
free = text (codes "ROWS" ∷ codes " L R1" ∷ codes "COLUMNS" ∷ codes " x R1 1" ∷ codes "BOUNDS" ∷ codes " FR BND x 1e99" ∷ codes "ENDATA" ∷ [])

abbrev pub free_model : Model
free_model = record {
  name = codes "";
  maximise = false;
  rows = row (codes "R1") L (dec (pos 0) (pos 0)) (None) ∷ [];
  cols = column (codes "x") false (None) (None) ((0, dec (pos 1) (pos 0)) ∷ []) ∷ [];
}

abbrev pub FreeDeck : Type 0
FreeDeck = decode free ≡ Deck free_model

-- MI, then FX
abbrev pub fixed : List ℕ
fixed = text (codes "ROWS" ∷ codes " L R1" ∷ codes "COLUMNS" ∷ codes " x R1 1" ∷ codes "BOUNDS" ∷ codes " MI x" ∷ codes " FX x 2.50" ∷ codes "ENDATA" ∷ [])

abbrev pub fixed_model : Model
fixed_model = record {
  name = codes "";
  maximise = false;
  rows = row (codes "R1") L (dec (pos 0) (pos 0)) (None) ∷ [];
  cols = column (codes "x") false (Some (dec (pos 25) (neg_ℤ (pos 1)))) (Some (dec (pos 25) (neg_ℤ (pos 1)))) ((0, dec (pos 1) (pos 0)) ∷ []) ∷ [];
}

abbrev pub FixedDeck : Type 0
FixedDeck = decode fixed ≡ Deck fixed_model

-- LI makes a column integer
abbrev pub marked_integer : List ℕ
marked_integer = text (codes "ROWS" ∷ codes " L R1" ∷ codes "COLUMNS" ∷ codes " x R1 1" ∷ codes "BOUNDS" ∷ codes " LI x -2" ∷ codes "ENDATA" ∷ [])

abbrev pub marked_integer_model : Model
marked_integer_model = record {
  name = codes "";
  maximise = false;
  rows = row (codes "R1") L (dec (pos 0) (pos 0)) (None) ∷ [];
  cols = column (codes "x") true (Some (dec (neg_ℤ (pos 2)) (pos 0))) (None) ((0, dec (pos 1) (pos 0)) ∷ []) ∷ [];
}

abbrev pub MarkedIntegerDeck : Type 0
MarkedIntegerDeck = decode marked_integer ≡ Deck marked_integer_model

-- the forms of numbers
abbrev pub numbers : List ℕ
numbers = text (codes "ROWS" ∷ codes " N A" ∷ codes " L B" ∷ codes " G C" ∷ codes " E D" ∷ codes " L F" ∷ codes " L H" ∷ codes " L I" ∷ codes " L J" ∷ codes " L K" ∷ codes "COLUMNS" ∷ codes " x A 999e33 B 1.50" ∷ codes " x C .5D1 D 0e99" ∷ codes " x F 1. H -00012.3400E-2" ∷ codes " x I 1.0000000000000000000000000000000000000000 J +0.30000000000000004" ∷ codes " x K 1d-30" ∷ codes "ENDATA" ∷ [])

abbrev pub numbers_model : Model
numbers_model = record {
  name = codes "";
  maximise = false;
  rows = row (codes "A") N (dec (pos 0) (pos 0)) (None)
      ∷ row (codes "B") L (dec (pos 0) (pos 0)) (None)
      ∷ row (codes "C") G (dec (pos 0) (pos 0)) (None)
      ∷ row (codes "D") E (dec (pos 0) (pos 0)) (None)
      ∷ row (codes "F") L (dec (pos 0) (pos 0)) (None)
      ∷ row (codes "H") L (dec (pos 0) (pos 0)) (None)
      ∷ row (codes "I") L (dec (pos 0) (pos 0)) (None)
      ∷ row (codes "J") L (dec (pos 0) (pos 0)) (None)
      ∷ row (codes "K") L (dec (pos 0) (pos 0)) (None) ∷ [];
  cols = column (codes "x") false (Some (dec (pos 0) (pos 0))) (None) ((0, dec (pos 999) (pos 33)) ∷ (1, dec (pos 15) (neg_ℤ (pos 1))) ∷ (2, dec (pos 5) (pos 0)) ∷ (3, dec (pos 0) (pos 0)) ∷ (4, dec (pos 1) (pos 0)) ∷ (5, dec (neg_ℤ (pos 1234)) (neg_ℤ (pos 4))) ∷ (6, dec (pos 1) (pos 0)) ∷ (7, dec (pos 30000000000000004) (neg_ℤ (pos 17))) ∷ (8, dec (pos 1) (neg_ℤ (pos 30))) ∷ []) ∷ [];
}

abbrev pub NumbersDeck : Type 0
NumbersDeck = decode numbers ≡ Deck numbers_model

-- a set that does not count, in each section
abbrev pub sets : List ℕ
sets = text (codes "ROWS" ∷ codes " L R1" ∷ codes " L R2" ∷ codes "COLUMNS" ∷ codes " x R1 1" ∷ codes "RHS" ∷ codes " R1 5" ∷ codes " S R1 7 R2 8" ∷ codes " R2 6" ∷ codes "RANGES" ∷ codes " A R1 1" ∷ codes " R2 2" ∷ codes " A R2 3" ∷ codes "BOUNDS" ∷ codes " UP x 4" ∷ codes " LO B x 1" ∷ codes " BV B x" ∷ codes " UP x 3" ∷ codes "ENDATA" ∷ [])

abbrev pub sets_model : Model
sets_model = record {
  name = codes "";
  maximise = false;
  rows = row (codes "R1") L (dec (pos 5) (pos 0)) (Some (dec (pos 1) (pos 0)))
      ∷ row (codes "R2") L (dec (pos 6) (pos 0)) (Some (dec (pos 3) (pos 0))) ∷ [];
  cols = column (codes "x") false (Some (dec (pos 0) (pos 0))) (Some (dec (pos 3) (pos 0))) ((0, dec (pos 1) (pos 0)) ∷ []) ∷ [];
}

abbrev pub SetsDeck : Type 0
SetsDeck = decode sets ≡ Deck sets_model

-- markers: repeats, and the last before the first record counts
abbrev pub markers : List ℕ
markers = text (codes "OBJSENSE" ∷ codes " MAXIMIZE" ∷ codes "ROWS" ∷ codes " N Z" ∷ codes "COLUMNS" ∷ codes " m 'MARKER' 'INTORG'" ∷ codes " m 'MARKER' 'INTORG'" ∷ codes " x Z 1" ∷ codes " m 'MARKER' 'INTEND'" ∷ codes " y Z 2" ∷ codes " m 'MARKER' 'INTORG'" ∷ codes " z Z 3" ∷ codes "ENDATA" ∷ [])

abbrev pub markers_model : Model
markers_model = record {
  name = codes "";
  maximise = true;
  rows = row (codes "Z") N (dec (pos 0) (pos 0)) (None) ∷ [];
  cols = column (codes "x") true (Some (dec (pos 0) (pos 0))) (None) ((0, dec (pos 1) (pos 0)) ∷ [])
      ∷ column (codes "y") false (Some (dec (pos 0) (pos 0))) (None) ((0, dec (pos 2) (pos 0)) ∷ [])
      ∷ column (codes "z") true (Some (dec (pos 0) (pos 0))) (None) ((0, dec (pos 3) (pos 0)) ∷ []) ∷ [];
}

abbrev pub MarkersDeck : Type 0
MarkersDeck = decode markers ≡ Deck markers_model

-- tabs, carriage returns, blank lines and comments; the last line lacks its LF
abbrev pub blanks : List ℕ
blanks = without_last (text (codes "NAME\tX Y\r" ∷ codes "\r" ∷ codes "OBJSENSE MIN\r" ∷ codes "  " ∷ codes "* x" ∷ codes "ROWS\r" ∷ codes "\tN\tA\r" ∷ codes "COLUMNS\r" ∷ codes " x\t A 1\r" ∷ codes "ENDATA" ∷ []))

abbrev pub blanks_model : Model
blanks_model = record {
  name = codes "X";
  maximise = false;
  rows = row (codes "A") N (dec (pos 0) (pos 0)) (None) ∷ [];
  cols = column (codes "x") false (Some (dec (pos 0) (pos 0))) (None) ((0, dec (pos 1) (pos 0)) ∷ []) ∷ [];
}

abbrev pub BlanksDeck : Type 0
BlanksDeck = decode blanks ≡ Deck blanks_model

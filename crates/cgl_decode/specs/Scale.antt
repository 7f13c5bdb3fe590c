-- Decks of any size.
use Rattle.std.specs.Prelude.{◌≡◌, ℕ, zero, suc, ◌+◌, ◌/◌, ◌%◌, pos, List, [], ◌∷◌, ◌++◌, codes, true, false, Some, None}
use Rattle.cgl_model.specs.declared.mip.Model.{Model}
use Rattle.cgl_model.specs.declared.mip.Column.{Column}
use Rattle.cgl_decode.specs.Written.{text, dec, row, column}
use Rattle.cgl_model.specs.declared.mip.RowKind.TheVariants.{N, L}
use Rattle.cgl_decode.specs.Decode.{decode, Deck}

abbrev pub name_of : ℕ → List ℕ
name_of k = 120 ∷ (97 + k / 676) ∷ (97 + (k / 26) % 26) ∷ (97 + k % 26) ∷ []

abbrev pub column_lines : ℕ → List (List ℕ)
column_lines zero = []
column_lines (suc k) = (32 ∷ name_of k ++ codes " OBJ 1 R1 3") ∷ column_lines k

abbrev pub bound_lines : ℕ → List (List ℕ)
bound_lines zero = []
bound_lines (suc k) = (codes " BV B " ++ name_of k) ∷ bound_lines k

abbrev pub scaled : ℕ → List ℕ
scaled n = text (codes "ROWS" ∷ codes " N OBJ" ∷ codes " L R1" ∷ codes "COLUMNS" ∷ (column_lines n ++ (codes "RHS" ∷ codes " S R1 5" ∷ codes "BOUNDS" ∷ (bound_lines n ++ (codes "ENDATA" ∷ [])))))

abbrev pub columns_upto : ℕ → List Column
columns_upto zero = []
columns_upto (suc k) = column (name_of k) true (Some (dec (pos 0) (pos 0))) (Some (dec (pos 1) (pos 0))) ((0, dec (pos 1) (pos 0)) ∷ (1, dec (pos 3) (pos 0)) ∷ []) ∷ columns_upto k

abbrev pub scaled_model : ℕ → Model
scaled_model n = record {
  name = [];
  maximise = false;
  rows = row (codes "OBJ") N (dec (pos 0) (pos 0)) None ∷ row (codes "R1") L (dec (pos 5) (pos 0)) None ∷ [];
  cols = columns_upto n;
}

-- 40 columns: 88 lines
abbrev pub ScaledDeck : Type 0
ScaledDeck = decode (scaled 40) ≡ Deck (scaled_model 40)

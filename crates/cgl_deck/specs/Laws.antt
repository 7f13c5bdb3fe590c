-- What callers may use of models with cuts as further rows, and of canonical texts.
use Rattle.std.specs.List.{AllByRecursion}
use Rattle.std.specs.Prelude.{◌≡◌, ℕ, ◌+◌, ◌≤◌, ◌<◌, ◌^◌, ◌++◌, List, None, Some, not, position, length, map, option_map, slice_get, zip}
use Rattle.cgl_model.specs.declared.mip.Model.{Model}
use Rattle.cgl_model.specs.declared.linear.Ineq.{Ineq}
use Rattle.cgl_model.specs.Feasible.{SamePoints}
use Rattle.cgl_model.specs.HasDecimals.{HasDecimals}
use Rattle.cgl_model.specs.RowEntries.{row_entries}
use Rattle.cgl_model.specs.Valid.{IsSized, IsValid}
use Rattle.cgl_decode.specs.Records.{records}
use Rattle.cgl_decode.specs.Decode.{Deck, decode}
use Rattle.cgl_deck.specs.CutNames.{cut_names}
use Rattle.cgl_deck.specs.DeckLines.{deck_lines, line_bytes, numbered, text_of}
use Rattle.cgl_deck.specs.DeckText.{deck_text}
use Rattle.cgl_deck.specs.Extended.{AreInRows, AreMet, AreRising, IsTooMany, cut_row, decimal_terms, extended, extended_column, is_decimal, is_known}

-- where cuts are refused, the model has no extension by them
pub record Refuses : Type 0 where
  pub unknown : (m : Model) (cuts : List Ineq) (k : ℕ) → position (λ c. not (is_known m c)) cuts ≡ Some k → extended m cuts ≡ None
  pub not_decimal : (m : Model) (cuts : List Ineq) (k : ℕ) → position (λ c. not (is_decimal c)) cuts ≡ Some k → extended m cuts ≡ None
  pub too_many : (m : Model) (cuts : List Ineq) → IsTooMany m cuts → extended m cuts ≡ None

-- a model with cuts as further rows
pub record Extends : Type 0 where
  pub rows : (m n : Model) (cuts : List Ineq) → extended m cuts ≡ Some n → n.rows ≡ m.rows ++ map cut_row (zip (cut_names m (length cuts)) cuts)
  pub columns : (m n : Model) (cuts : List Ineq) → extended m cuts ≡ Some n → (j : ℕ) → slice_get n.cols j ≡ option_map (extended_column (length m.rows) j cuts) (slice_get m.cols j)
  pub column_count : (m n : Model) (cuts : List Ineq) → extended m cuts ≡ Some n → length n.cols ≡ length m.cols
  pub sized : (m n : Model) (cuts : List Ineq) → extended m cuts ≡ Some n → IsSized m → IsSized n
  pub valid : (m n : Model) (cuts : List Ineq) → extended m cuts ≡ Some n → IsValid m → IsValid n
  pub decimal : (m n : Model) (cuts : List Ineq) → extended m cuts ≡ Some n → HasDecimals m → HasDecimals n
  pub old_rows : (m n : Model) (cuts : List Ineq) → extended m cuts ≡ Some n → (r : ℕ) → r < length m.rows → row_entries n r ≡ row_entries m r
  pub new_rows : (m n : Model) (cuts : List Ineq) → extended m cuts ≡ Some n → AreInRows m → AreRising cuts
      → (k : ℕ) (c : Ineq) → slice_get cuts k ≡ Some c → row_entries n (length m.rows + k) ≡ decimal_terms c
  pub points : (m n : Model) (cuts : List Ineq) → extended m cuts ≡ Some n → AreInRows m → AreRising cuts → AreMet m cuts → SamePoints m n
  pub names : (m : Model) (n : ℕ) → length m.rows + n < 2 ^ 64 → length (cut_names m n) ≡ n

-- the canonical text of a model decodes to the model, so the text of what it decodes to is the same
pub record ReadsBack : Type 0 where
  pub decodes : (m : Model) → IsValid m → HasDecimals m → length (deck_text m) ≤ 2 ^ 30 → decode (deck_text m) ≡ Deck m
  pub again : (m n : Model) → IsValid m → HasDecimals m → length (deck_text m) ≤ 2 ^ 30 → decode (deck_text m) ≡ Deck n → deck_text n ≡ deck_text m

-- the canonical text of a model is that of its lines, and, cut into records, gives them back
pub record HasLines : Type 0 where
  pub lines : (m : Model) → deck_text m ≡ text_of (deck_lines m)
  pub records : (m : Model) → IsValid m → HasDecimals m → records (deck_text m) ≡ numbered 1 (deck_lines m)
  pub sizes : (m : Model) → IsValid m → HasDecimals m → AllByRecursion (λ l. length (line_bytes l) ≤ 4096) (deck_lines m)

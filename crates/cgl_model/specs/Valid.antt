-- The models that decks describe.
use Rattle.std.specs.Prelude.{ℕ, ◌≤◌, ◌<◌, ◌^◌, ◌==◌, ◌||◌, ◌&&◌, nat_lt, nat_le, Bool, IsTrue, not, unsigned_abs, List, [], ◌∷◌, codes, bytes_eq, length, map, sum_by, Option, Some, None}
use Rattle.std.specs.List.{list_any, list_all, AllByRecursion}
use Rattle.cgl_num.specs.Decimal.{Decimal, scaled}
use Rattle.cgl_num.specs.NumberText.{Word}
use Rattle.cgl_model.specs.declared.mip.Column.{Column}
use Rattle.cgl_model.specs.declared.mip.Model.{Model}
use Rattle.cgl_num.specs.Words.{is_blank, is_one_of}

-- no name stands twice
abbrev pub AreDistinct : List Word → Type 0
AreDistinct [] = Unit {0}
AreDistinct (name ∷ names) = IsTrue (not (is_one_of names name)) × AreDistinct names

abbrev pub is_name_byte : ℕ → Bool
is_name_byte b = not (is_blank b || b == 10)

-- a name without blanks, of at most 255 bytes, that may be empty
abbrev pub IsModelName : Word → Type 0
IsModelName name = IsTrue (list_all is_name_byte name && nat_le (length name) 255)

abbrev pub IsName : Word → Type 0
IsName name = IsTrue (nat_lt 0 (length name) && list_all is_name_byte name && nat_le (length name) 255)

abbrev pub IsRowName : Word → Type 0
IsRowName name = IsName name × IsTrue (not (bytes_eq name (codes "'MARKER'")))

-- a finite bound is below 10^20 in magnitude: 10^30 times it is below 10^50
abbrev pub IsBound : Option Decimal → Type 0
IsBound None = Unit {0}
IsBound (Some d) = unsigned_abs (scaled 30 d) < 10 ^ 50

-- each row stands once
abbrev pub AreDistinctRows : List (ℕ × Decimal) → Type 0
AreDistinctRows [] = Unit {0}
AreDistinctRows (e ∷ entries) = IsTrue (not (list_any (λ other. e.0 == other.0) entries)) × AreDistinctRows entries

pub record IsColumn (rows : ℕ) (c : Column) : Type 0 where
  pub name : IsName c.name
  pub some : 0 < length c.entries
  pub known : AllByRecursion (λ e. e.0 < rows) c.entries
  pub distinct : AreDistinctRows c.entries
  pub lower : IsBound c.lo
  pub upper : IsBound c.up

-- at most 2^20 rows, 2^20 columns and 2^22 entries
pub record IsSized (m : Model) : Type 0 where
  pub rows : length m.rows ≤ 2 ^ 20
  pub columns : length m.cols ≤ 2 ^ 20
  pub entries : sum_by (λ c. length c.entries) m.cols ≤ 2 ^ 22

pub record IsValid (m : Model) : Type 0 where
  pub sized : IsSized m
  pub name : IsModelName m.name
  pub row_names : AllByRecursion (λ r. IsRowName r.name) m.rows
  pub distinct_rows : AreDistinct (map (λ r. r.name) m.rows)
  pub columns : AllByRecursion (IsColumn (length m.rows)) m.cols
  pub distinct_columns : AreDistinct (map (λ c. c.name) m.cols)

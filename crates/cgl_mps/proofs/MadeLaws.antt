-- The model that is made of what is carried is that of the records.
use Rattle.std.proofs.Common.{◌≡◌, refl, sym, ap, ap₂, ◌∙◌, arith, add-zero, length-append, ℕ, suc, ◌+◌, Bool, false, ◌||◌, List, [], ◌∷◌, ◌++◌, length, drop, get_or, map, filter_map, Option, None, unwrap_or, pos}
use Rattle.std.specs.Prelude.{slice_get}
use Rattle.std.proofs.lemmas.List.{drop-drop, get_or-drop}
use Rattle.std.proofs.lemmas.Option.{unwrap_or-slice_get}
use Rattle.std.specs.List.{list_any}
use Rattle.cgl_num.specs.Decimal.{Decimal}
use Rattle.cgl_num.specs.NumberText.{Word, whole}
use Rattle.cgl_model.specs.declared.mip.RowKind.{RowKind}
use Rattle.cgl_model.specs.declared.mip.RowKind.TheVariants.{N}
use Rattle.cgl_model.specs.declared.mip.Row.{Row}
use Rattle.cgl_model.specs.declared.mip.Column.{Column}
use Rattle.cgl_model.specs.declared.mip.Model.{Model}
use Rattle.cgl_decode.specs.declared.kinds.Section.TheVariants.{Rhs, Ranges}
use Rattle.cgl_decode.specs.Records.{Record}
use Rattle.cgl_decode.specs.Sections.{Bound, Pair, counting_bounds, counting_pairs, rows, row_names}
use Rattle.cgl_decode.specs.Models.{entry_of, model_of, row_of, value_at}
use Rattle.cgl_mps.specs.Carried.{ReadColumn, all_of, made_column, names_of}
use Rattle.cgl_mps.specs.declared.bound_table.ColumnBounds.{ColumnBounds}
use Rattle.cgl_mps.specs.Tables.{bounds_on, column_bounds}
use Rattle.cgl_mps.specs.State.{State, Stands}
use Rattle.cgl_mps.specs.Made.{column_with, head_or, made_columns, made_model, made_rows, row_at}
use Rattle.cgl_mps.proofs.CarriedLaws.{all_made}

rows_made : (f g : Word → Option Decimal) (named : List (RowKind × Word))
    → made_rows (map (λ r. r.1) named) (map (λ r. r.0) named) (map f (map (λ r. r.1) named)) (map g (map (λ r. r.1) named))
    ≡ map (λ r. record { name = r.1; kind = r.0; rhs = unwrap_or (f r.1) (whole (pos 0)); range = g r.1 }) named
rows_made f g [] = refl
rows_made f g (r ∷ named) = ap (λ l. record { name = r.1; kind = r.0; rhs = unwrap_or (f r.1) (whole (pos 0)); range = g r.1 } ∷ l) (rows_made f g named)

rows_alike : (before : List Record) (state : State) → Stands before state → made_rows state.rows state.kinds state.rhs.values state.ranges.values ≡ map (row_of before) (rows before)
rows_alike before state s =
    let names : state.rows ≡ map (λ r. r.1) (rows before) = s.carried.rows in
    ap₂ (λ (ns : List Word) (ks : List RowKind). made_rows ns ks state.rhs.values state.ranges.values) names s.kinds
    ∙ ap₂ (λ (a b : List (Option Decimal)). made_rows (map (λ r. r.1) (rows before)) (map (λ r. r.0) (rows before)) a b)
    (s.rhs.values ∙ ap₂ (λ (pairs : List Pair) (ns : List Word). map (value_at pairs) ns) s.carried.rhs.pairs names)
    (s.ranges.values ∙ ap₂ (λ (pairs : List Pair) (ns : List Word). map (value_at pairs) ns) s.carried.ranges.pairs names)
    ∙ rows_made (value_at (counting_pairs Rhs before)) (value_at (counting_pairs Ranges before)) (rows before)

columns_made : (before : List Record) (columns : List ReadColumn)
    → made_columns (names_of columns) (map (λ c. (c.marked, filter_map (entry_of (row_names before)) c.pairs)) columns) (map (λ name. column_bounds (bounds_on (counting_bounds before) name)) (names_of columns))
    ≡ map (made_column before) columns
columns_made before [] = refl
columns_made before (c ∷ columns) = ap (λ l. made_column before c ∷ l) (columns_made before columns)

columns_alike : (before : List Record) (state : State) (s : Stands before state)
    → made_columns state.columns.names state.columns.columns state.bounds.columns ≡ map (made_column before) (all_of s.read_columns)
columns_alike before state s =
    let names = s.columns.names in
    ap₂ (λ (ns : List Word) (cs : List (Bool × List (ℕ × Decimal))). made_columns ns cs state.bounds.columns) names
    (s.columns.columns ∙ ap (λ (ns : List Word). map (λ c. (c.marked, filter_map (entry_of ns) c.pairs)) (all_of s.read_columns)) s.carried.rows)
    ∙ ap (made_columns (names_of (all_of s.read_columns)) (map (λ c. (c.marked, filter_map (entry_of (row_names before)) c.pairs)) (all_of s.read_columns)))
    (s.bounds.columns ∙ ap₂ (λ (bounds : List Bound) (ns : List Word). map (λ name. column_bounds (bounds_on bounds name)) ns) s.carried.bounds.bounds names)
    ∙ columns_made before (all_of s.read_columns)

pub model_alike : (before : List Record) (state : State) → Stands before state → made_model state ≡ model_of before
unfolding model_of
model_alike before state s =
    ap₂ (λ (name : Word) (maximise : Bool). record { name = name; maximise = maximise; rows = made_rows state.rows state.kinds state.rhs.values state.ranges.values; cols = made_columns state.columns.names state.columns.columns state.bounds.columns })
    s.name s.maximise
    ∙ ap₂ (λ (rs : List Row) (cs : List Column). record { name = (model_of before).name; maximise = (model_of before).maximise; rows = rs; cols = cs })
    (rows_alike before state s) (columns_alike before state s ∙ all_made before s.read_columns s.carried.columns)

-- one row or column more

pub at_first : {X : Type 0} (d : X) (xs : List X) → head_or d xs ≡ unwrap_or (slice_get xs 0) d
at_first d [] = refl
at_first d (x ∷ xs) = refl

later_is : {X : Type 0} (d : X) (xs : List X) (n : ℕ) → get_or (drop 1 xs) n d ≡ get_or xs (suc n) d
later_is d [] n = refl
later_is d (x ∷ xs) n = refl

at_later : {X : Type 0} (d : X) (xs : List X) (n : ℕ) → unwrap_or (slice_get (drop 1 xs) n) d ≡ unwrap_or (slice_get xs (suc n)) d
at_later d xs n = unwrap_or-slice_get (drop 1 xs) n d ∙ later_is d xs n ∙ sym (unwrap_or-slice_get xs (suc n) d)

abbrev RowOf : Word → RowKind → Option Decimal → Option Decimal → Row
RowOf name kind rhs range = record { name = name; kind = kind; rhs = unwrap_or rhs (whole (pos 0)); range = range }

row_here : (name : Word) (k k' : RowKind) (a a' b b' : Option Decimal) → k ≡ k' → a ≡ a' → b ≡ b' → RowOf name k a b ≡ RowOf name k' a' b'
row_here name k k' a a' b b' e f g = ap₂ (λ (k : RowKind) (a : Option Decimal). RowOf name k a b) e f ∙ ap (λ (b : Option Decimal). RowOf name k' a' b) g

rows_push : (names : List Word) (name : Word) (kinds : List RowKind) (rhs ranges : List (Option Decimal))
    → made_rows (names ++ name ∷ []) kinds rhs ranges ≡ made_rows names kinds rhs ranges ++ row_at name kinds rhs ranges (length names) ∷ []
rows_push [] name kinds rhs ranges =
    ap (λ (r : Row). r ∷ [])
    (row_here name (head_or N kinds) (unwrap_or (slice_get kinds 0) N) (head_or None rhs) (unwrap_or (slice_get rhs 0) None) (head_or None ranges) (unwrap_or (slice_get ranges 0) None)
    (at_first N kinds) (at_first None rhs) (at_first None ranges))
rows_push (first ∷ names) name kinds rhs ranges =
    let n = length names in
    ap (λ l. RowOf first (head_or N kinds) (head_or None rhs) (head_or None ranges) ∷ l)
    (rows_push names name (drop 1 kinds) (drop 1 rhs) (drop 1 ranges)
    ∙ ap (λ (r : Row). made_rows names (drop 1 kinds) (drop 1 rhs) (drop 1 ranges) ++ r ∷ [])
    (row_here name (unwrap_or (slice_get (drop 1 kinds) n) N) (unwrap_or (slice_get kinds (suc n)) N) (unwrap_or (slice_get (drop 1 rhs) n) None) (unwrap_or (slice_get rhs (suc n)) None)
    (unwrap_or (slice_get (drop 1 ranges) n) None) (unwrap_or (slice_get ranges (suc n)) None)
    (at_later N kinds n) (at_later None rhs n) (at_later None ranges n)))

rows_length : (names : List Word) (kinds : List RowKind) (rhs ranges : List (Option Decimal)) → length (made_rows names kinds rhs ranges) ≡ length names
rows_length [] kinds rhs ranges = refl
rows_length (name ∷ names) kinds rhs ranges = ap suc (rows_length names (drop 1 kinds) (drop 1 rhs) (drop 1 ranges))

pub row_made : (names : List Word) (name : Word) (kinds : List RowKind) (rhs ranges : List (Option Decimal)) (made made' : List Row) (place : ℕ)
    → made ≡ made_rows names kinds rhs ranges → place ≡ length made → made' ≡ made ++ row_at name kinds rhs ranges place ∷ [] → made' ≡ made_rows (names ++ name ∷ []) kinds rhs ranges
row_made names name kinds rhs ranges made made' place is at more =
    more
    ∙ ap₂ (λ (l : List Row) (n : ℕ). l ++ row_at name kinds rhs ranges n ∷ []) is (at ∙ ap length is ∙ rows_length names kinds rhs ranges)
    ∙ sym (rows_push names name kinds rhs ranges)

columns_push : (names : List Word) (name : Word) (columns : List (Bool × List (ℕ × Decimal))) (bounds : List ColumnBounds)
    → made_columns (names ++ name ∷ []) columns bounds
    ≡ made_columns names columns bounds ++ column_with name (unwrap_or (slice_get columns (length names)) (false, [])) (unwrap_or (slice_get bounds (length names)) (column_bounds [])) ∷ []
columns_push [] name columns bounds = ap₂ (λ (c : Bool × List (ℕ × Decimal)) (own : ColumnBounds). column_with name c own ∷ []) (at_first (false, []) columns) (at_first (column_bounds []) bounds)
columns_push (first ∷ names) name columns bounds =
    let n = length names in
    ap (λ l. column_with first (head_or (false, []) columns) (head_or (column_bounds []) bounds) ∷ l)
    (columns_push names name (drop 1 columns) (drop 1 bounds)
    ∙ ap₂ (λ (c : Bool × List (ℕ × Decimal)) (own : ColumnBounds). made_columns names (drop 1 columns) (drop 1 bounds) ++ column_with name c own ∷ [])
    (at_later (false, []) columns n) (at_later (column_bounds []) bounds n))

columns_length : (names : List Word) (columns : List (Bool × List (ℕ × Decimal))) (bounds : List ColumnBounds) → length (made_columns names columns bounds) ≡ length names
columns_length [] columns bounds = refl
columns_length (name ∷ names) columns bounds = ap suc (columns_length names (drop 1 columns) (drop 1 bounds))

head_at : {X : Type 0} (d : X) (xs : List X) (n : ℕ) → head_or d (drop n xs) ≡ unwrap_or (slice_get xs n) d
head_at d xs n =
    at_first d (drop n xs)
    ∙ unwrap_or-slice_get (drop n xs) 0 d
    ∙ get_or-drop n xs 0 d
    ∙ ap (λ k. get_or xs k d) (add-zero n)
    ∙ sym (unwrap_or-slice_get xs n d)

pub column_made : (names : List Word) (name : Word) (columns rest : List (Bool × List (ℕ × Decimal))) (bounds : List ColumnBounds) (made made' : List Column) (place : ℕ) (column : Bool × List (ℕ × Decimal)) (own : ColumnBounds)
    → made ≡ made_columns names columns bounds → rest ≡ drop (length made) columns → place ≡ length made → column ≡ head_or (false, []) rest → own ≡ unwrap_or (slice_get bounds place) (column_bounds [])
    → made' ≡ made ++ column_with name column own ∷ [] → made' ≡ made_columns (names ++ name ∷ []) columns bounds
column_made names name columns rest bounds made made' place column own is left at first own_is more =
    let here : length made ≡ length names = ap length is ∙ columns_length names columns bounds in
    more
    ∙ ap (λ l. l ++ column_with name column own ∷ []) is
    ∙ ap₂ (λ (c : Bool × List (ℕ × Decimal)) (o : ColumnBounds). made_columns names columns bounds ++ column_with name c o ∷ [])
    (first ∙ ap (head_or (false, [])) left ∙ head_at (false, []) columns (length made) ∙ ap (λ n. unwrap_or (slice_get columns n) (false, [])) here)
    (own_is ∙ ap (λ n. unwrap_or (slice_get bounds n) (column_bounds [])) (at ∙ here))
    ∙ sym (columns_push names name columns bounds)

pub columns_left : {X Y : Type 0} (columns rest rest' : List X) (made made' : List Y) (y : Y) → rest ≡ drop (length made) columns → rest' ≡ drop 1 rest → made' ≡ made ++ y ∷ [] → rest' ≡ drop (length made') columns
columns_left columns rest rest' made made' y left next more =
    next
    ∙ ap (drop 1) left
    ∙ drop-drop 1 (length made) columns
    ∙ ap (λ n. drop n columns) (sym (ap length more ∙ length-append made (y ∷ [])))

pub made_of : (state : State) (name : Word) (rows : List Row) (cols : List Column) → name ≡ state.name
    → rows ≡ made_rows state.rows state.kinds state.rhs.values state.ranges.values → cols ≡ made_columns state.columns.names state.columns.columns state.bounds.columns
    → record { name = name; maximise = state.maximise; rows = rows; cols = cols } ≡ made_model state
made_of state name rows cols named rows_are cols_are =
    ap (λ (n : Word). record { name = n; maximise = state.maximise; rows = rows; cols = cols }) named
    ∙ ap₂ (λ (rs : List Row) (cs : List Column). record { name = state.name; maximise = state.maximise; rows = rs; cols = cs }) rows_are cols_are

-- Lines without a fault, part by part: what holds of the records before a part, and behind it.
use Rattle.std.proofs.Common.{◌≡◌, refl, sym, ap, ◌∙◌, subst, arith, ℕ, ◌+◌, ◌<◌, ◌≤◌, nat_lt, Bool, true, false, cond, not, ◌&&◌, ◌||◌, List, [], ◌∷◌, ◌++◌, append-nil, append_assoc, map, filter, filter_map, Some, None}
use Rattle.std.specs.List.{list_any, AllByRecursion}
use Rattle.std.proofs.lemmas.Bool.{le-ltb, ne_eqb, and_right, or_from}
use Rattle.std.proofs.lemmas.List.Elements.{filter-append}
use Rattle.std.proofs.lemmas.List.Folds.{list_any-append}
use Rattle.cgl_num.specs.NumberText.{Word}
use Rattle.cgl_decode.specs.declared.kinds.Section.{Section}
use Rattle.cgl_decode.specs.declared.kinds.Section.TheVariants.{Start, Name, Sense, Rows, Columns, Rhs, Ranges, Bounds, End, Unsupported, Unknown}
use Rattle.cgl_decode.specs.Records.{Record, field, place, same_section, is_kept, data_in, has_header}
use Rattle.cgl_decode.specs.Sections.{row_in, row_names, distinct, is_marker, column_names}
use Rattle.cgl_decode.specs.Faults.{Condition, first_kind, conditions, rank, needs, is_misplaced}
use Rattle.cgl_decode.specs.Decode.{deck_limits}
use Rattle.cgl_deck.specs.DeckLines.{Line, header_of, record_at, numbered}

-- ---- conditions of which none holds

abbrev pub NoneHolds : List Condition → Type 0
NoneHolds cs = AllByRecursion (λ c. c.0 ≡ false) cs

pub fine : (cs : List Condition) → NoneHolds cs → first_kind cs ≡ None
fine [] none = refl
fine (c ∷ cs) none = ap (λ b. cond b (Some c.1) (first_kind cs)) none.0 ∙ fine cs none.1

-- ---- parts

-- a line that is kept and has no fault
abbrev pub IsGood : List Record → Record → Type 0
IsGood before r = (is_kept r ≡ true) × (first_kind (conditions deck_limits before r) ≡ None)

abbrev pub Faultless : List Record → ℕ → List Line → Type 0
Faultless before n [] = Unit {0}
Faultless before n (l ∷ lines) = IsGood before (record_at n l) × Faultless (before ++ record_at n l ∷ []) (n + 1) lines

-- behind records of which P holds the lines have no fault, and Q holds behind them
abbrev pub Part : (List Record → Type 0) → List Line → (List Record → Type 0) → Type 0
Part P lines Q = (before : List Record) (n : ℕ) → P before → Faultless before n lines × Q (before ++ numbered n lines)

pub nothing : (P Q : List Record → Type 0) → ((before : List Record) → P before → Q before) → Part P [] Q
nothing P Q weaker before n h = (tt, subst Q (sym (append-nil before)) (weaker before h))

pub first : (P Q R : List Record → Type 0) (l : Line) (lines : List Line)
    → ((before : List Record) (n : ℕ) → P before → IsGood before (record_at n l) × Q (before ++ record_at n l ∷ []))
    → Part Q lines R → Part P (l ∷ lines) R
first P Q R l lines here later before n h =
    let a = here before n h in
    let b = later (before ++ record_at n l ∷ []) (n + 1) a.1 in
    ((a.0, b.0), subst R (append_assoc before (record_at n l ∷ []) (numbered (n + 1) lines)) b.1)

glue : (Q R : List Record → Type 0) (a b : List Line) → Part Q b R
    → (before : List Record) (n : ℕ) → Faultless before n a → Q (before ++ numbered n a) → Faultless before n (a ++ b) × R (before ++ numbered n (a ++ b))
glue Q R [] b later before n fine h = later before n (subst Q (append-nil before) h)
glue Q R (l ∷ a) b later before n fine h =
    let next = before ++ record_at n l ∷ [] in
    let x = glue Q R a b later next (n + 1) fine.1 (subst Q (sym (append_assoc before (record_at n l ∷ []) (numbered (n + 1) a))) h) in
    ((fine.0, x.0), subst R (append_assoc before (record_at n l ∷ []) (numbered (n + 1) (a ++ b))) x.1)

pub then : (P Q R : List Record → Type 0) (a b : List Line) → Part P a Q → Part Q b R → Part P (a ++ b) R
then P Q R a b now later before n h = let x = now before n h in glue Q R a b later before n x.0 x.1

pub weaken : (P Q R : List Record → Type 0) (a : List Line) → Part P a Q → ((before : List Record) → Q before → R before) → Part P a R
weaken P Q R a now weaker before n h = let x = now before n h in (x.0, weaker (before ++ numbered n a) x.1)

-- ---- one record more

pub all_push : {X : Type 0} (P : X → Type 0) (xs : List X) (x : X) → AllByRecursion P xs → P x → AllByRecursion P (xs ++ x ∷ [])
all_push P [] x all here = (here, tt)
all_push P (y ∷ xs) x all here = (all.0, all_push P xs x all.1 here)

pub all_weaker : {X : Type 0} (P Q : X → Type 0) → ((x : X) → P x → Q x) → (xs : List X) → AllByRecursion P xs → AllByRecursion Q xs
all_weaker P Q weaker [] all = tt
all_weaker P Q weaker (x ∷ xs) all = (weaker x all.0, all_weaker P Q weaker xs all.1)

-- all stand in sections before the one with this place
abbrev pub Under : ℕ → List Record → Type 0
Under k before = AllByRecursion (λ r. (0 < place r.section) × (place r.section < k)) before

pub under_more : (k m : ℕ) → k ≤ m → (before : List Record) → Under k before → Under m before
under_more k m le before all = all_weaker (λ r. (0 < place r.section) × (place r.section < k)) (λ r. (0 < place r.section) × (place r.section < m)) (λ r h. (h.0, omega (arith, h.1))) before all

pub under_push : (k m : ℕ) → k ≤ m → (before : List Record) (r : Record) → Under k before → 0 < place r.section → place r.section < m → Under m (before ++ r ∷ [])
under_push k m le before r all above below = all_push (λ q. (0 < place q.section) × (place q.section < m)) before r (under_more k m le before all) (above, below)

pub data_push : (s : Section) (before : List Record) (r : Record) → data_in s (before ++ r ∷ []) ≡ data_in s before ++ data_in s (r ∷ [])
data_push s before r = filter-append (λ q. not q.header && same_section s q.section) before (r ∷ [])

pub data_same : (s : Section) (before : List Record) (r : Record) → data_in s (r ∷ []) ≡ [] → data_in s (before ++ r ∷ []) ≡ data_in s before
data_same s before r none = data_push s before r ∙ ap (λ l. data_in s before ++ l) none ∙ append-nil (data_in s before)

other_section : (k : ℕ) (s : Section) (r : Record) → place r.section < k → k ≤ place s → same_section s r.section ≡ false
other_section k s r lt le = ne_eqb (place s) (place r.section) (λ e. omega arith)

pub data_none : (k : ℕ) (s : Section) (before : List Record) → k ≤ place s → Under k before → data_in s before ≡ []
data_none k s [] le all = refl
data_none k s (r ∷ before) le all =
    ap (λ b. cond b (r ∷ data_in s before) (data_in s before)) (and_right (not r.header) (same_section s r.section) (other_section k s r all.0.1 le))
    ∙ data_none k s before le all.1

pub header_none : (k : ℕ) (s : Section) (before : List Record) → k ≤ place s → Under k before → has_header s before ≡ false
header_none k s [] le all = refl
header_none k s (r ∷ before) le all =
    or_from (r.header && same_section s r.section) (has_header s before)
    (and_right r.header (same_section s r.section) (other_section k s r all.0.1 le))
    (header_none k s before le all.1)

or_true : (a b : Bool) → a ≡ true → (a || b) ≡ true
or_true a b h = ap (λ c. c || b) h

or_end : (a b : Bool) → b ≡ true → (a || (b || false)) ≡ true
or_end true b h = refl
or_end false b h = ap (λ c. c || false) h

pub header_stays : (s : Section) (before : List Record) (r : Record) → has_header s before ≡ true → has_header s (before ++ r ∷ []) ≡ true
header_stays s before r h = list_any-append (λ q. q.header && same_section s q.section) before (r ∷ []) ∙ or_true (has_header s before) (has_header s (r ∷ [])) h

pub header_new : (s : Section) (before : List Record) (r : Record) → (r.header && same_section s r.section) ≡ true → has_header s (before ++ r ∷ []) ≡ true
header_new s before r h = list_any-append (λ q. q.header && same_section s q.section) before (r ∷ []) ∙ or_end (has_header s before) (r.header && same_section s r.section) h

-- names that one record more leaves as they are

pub rows_same : (before : List Record) (r : Record) → data_in Rows (r ∷ []) ≡ [] → row_names (before ++ r ∷ []) ≡ row_names before
rows_same before r none = ap (λ l. map (λ p. p.1) (filter_map (λ q. row_in q.fields) l)) (data_same Rows before r none)

pub columns_same : (before : List Record) (r : Record) → data_in Columns (r ∷ []) ≡ [] → column_names (before ++ r ∷ []) ≡ column_names before
columns_same before r none = ap (λ l. distinct (map (field 0) (filter (λ q. not (is_marker q)) l))) (data_same Columns before r none)

-- ---- headers

pub record IsRanked (t : Section) : Type 0 where
  pub below : rank t + 1 ≤ place t
  pub most : rank t ≤ 4

pub ranked : (t : Section) → 0 < place t → place t < 8 → IsRanked t
ranked Start above below = absurd (omega arith)
ranked Name above below = record { below = omega arith; most = omega arith }
ranked Sense above below = record { below = omega arith; most = omega arith }
ranked Rows above below = record { below = omega arith; most = omega arith }
ranked Columns above below = record { below = omega arith; most = omega arith }
ranked Rhs above below = record { below = omega arith; most = omega arith }
ranked Ranges above below = record { below = omega arith; most = omega arith }
ranked Bounds above below = record { below = omega arith; most = omega arith }
ranked End above below = absurd (omega arith)
ranked Unsupported above below = absurd (omega arith)
ranked Unknown above below = absurd (omega arith)

-- no section before this one has a higher rank
abbrev pub IsHighest : Section → Type 0
IsHighest s = (t : Section) → 0 < place t → place t < place s → rank t ≤ rank s

no_higher : (s : Section) → IsHighest s → (before : List Record) → Under (place s) before → list_any (λ h. h.header && nat_lt (rank s) (rank h.section)) before ≡ false
no_higher s highest [] all = refl
no_higher s highest (h ∷ before) all =
    or_from (h.header && nat_lt (rank s) (rank h.section)) (list_any (λ h. h.header && nat_lt (rank s) (rank h.section)) before)
    (and_right h.header (nat_lt (rank s) (rank h.section)) (le-ltb (rank s) (rank h.section) (highest h.section all.0.0 all.0.1)))
    (no_higher s highest before all.1)

pub well_placed : (s : Section) (words : List Word) (n : ℕ) → IsHighest s → (before : List Record) → Under (place s) before → needs s before ≡ true → is_misplaced before (record_at n (header_of s words)) ≡ false
well_placed s words n highest before all needed =
    or_from (list_any (λ h. h.header && nat_lt (rank s) (rank h.section)) before || has_header s before) (not (needs s before))
    (or_from (list_any (λ h. h.header && nat_lt (rank s) (rank h.section)) before) (has_header s before)
    (no_higher s highest before all) (header_none (place s) s before (omega arith) all))
    (ap not needed)

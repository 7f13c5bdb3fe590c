-- The entries of rows, gathered column by column.
use Rattle.std.proofs.Common.{◌≡◌, ℕ, zero, suc, ◌+◌, ◌-◌, ◌≤◌, ◌<◌, ◌==◌, ap, refl, sym, ◌∙◌, subst, arith, List, [], ◌∷◌, ◌++◌, length, get_or, set, take, drop, true, false, cond, Bool, inl, inr}
use Rattle.std.specs.Prelude.{Option, Some, None, option_map, slice_get}
use Rattle.std.specs.Option.{option_or}
use Rattle.std.proofs.lemmas.Bool.{cases_eq, cond-true, cond-false, ne_eqb, eq-eqb}
use Rattle.std.proofs.lemmas.List.{append-nil, get_or-set_other, get_or-set_same, length-set, length-take, length-take-le, take_all, take_more}
use Rattle.std.proofs.Math.Seq.{drop-length}
use Rattle.cgl_num.specs.Decimal.{Decimal}
use Rattle.cgl_model.proofs.ColumnLaws.{entries_below}
use Rattle.cgl_model.specs.declared.mip.Column.{Column}
use Rattle.cgl_model.specs.RowEntries.{AreEntriesBelow, ends_in_column, entry_at, onto_entries, row_entries_from}

abbrev pub Entries : Type 0
Entries = List (ℕ × Decimal)

last_at : (entries : Entries) (j i : ℕ) (e : ℕ × Decimal) → i + 1 ≡ length entries → slice_get entries i ≡ Some e → (e.0 == j) ≡ ends_in_column j entries
last_at [] j i e h is = cc
last_at (f ∷ []) j zero e h is = let same : f ≡ e = cc in ap (λ g. g.0 == j) (sym same)
last_at (f ∷ []) j (suc i) e h is = cc
last_at (f ∷ g ∷ entries) j zero e h is = absurd (omega arith)
last_at (f ∷ g ∷ entries) j (suc i) e h is = last_at (g ∷ entries) j i e (omega arith) is

last_is : (entries : Entries) (j : ℕ) (e : ℕ × Decimal) → slice_get entries (length entries - 1) ≡ Some e → (e.0 == j) ≡ ends_in_column j entries
last_is [] j e is = cc
last_is (f ∷ entries) j e is = last_at (f ∷ entries) j (length (f ∷ entries) - 1) e (omega arith) is

-- the last entry of `items`, which are the list's
pub last_in : (entries items : Entries) (j : ℕ) (e : ℕ × Decimal) → items ≡ entries → slice_get items (length items - 1) ≡ Some e → (e.0 == j) ≡ ends_in_column j entries
last_in entries items j e same is = last_is items j e is ∙ ap (ends_in_column j) same

none_at : (entries : Entries) (i : ℕ) → i < length entries → slice_get entries i ≡ None → ⊥
none_at [] i h is = omega arith
none_at (e ∷ entries) zero h is = cc
none_at (e ∷ entries) (suc i) h is = none_at entries i (omega arith) is

none_is : (entries : Entries) (j : ℕ) → slice_get entries (length entries - 1) ≡ None → ends_in_column j entries ≡ false
none_is [] j is = refl
none_is (e ∷ entries) j is = absurd (none_at (e ∷ entries) (length (e ∷ entries) - 1) (omega arith) is)

pub none_in : (entries items : Entries) (j : ℕ) → items ≡ entries → slice_get items (length items - 1) ≡ None → ends_in_column j entries ≡ false
none_in entries items j same is = ap (ends_in_column j) (sym same) ∙ none_is items j is

-- ---- one column more

-- the entry of the column behind entries of lower columns
ends_not : (entries : Entries) (j : ℕ) → AreEntriesBelow j entries → ends_in_column j entries ≡ false
ends_not [] j h = refl
ends_not (e ∷ []) j h = let below = h.0 in ne_eqb e.0 j (λ same. omega arith)
ends_not (e ∷ f ∷ entries) j h = ends_not (f ∷ entries) j h.1

ends_new : (entries : Entries) (j : ℕ) (d : Decimal) → ends_in_column j (entries ++ (j, d) ∷ []) ≡ true
ends_new [] j d = eq-eqb j j refl
ends_new (e ∷ []) j d = eq-eqb j j refl
ends_new (e ∷ f ∷ entries) j d = ends_new (f ∷ entries) j d

push_case : (r : ℕ) (here : Bool) (f : ℕ × Decimal) (before after : Option (ℕ × Decimal)) (new : Option Decimal)
    → option_map (λ e. e.1) after ≡ option_or (option_map (λ e. e.1) before) new
    → option_map (λ e. e.1) (cond here (Some f) after) ≡ option_or (option_map (λ e. e.1) (cond here (Some f) before)) new
push_case r true f before after new h = refl
push_case r false f before after new h = h

-- the first entry of a row counts
entry_push : (r : ℕ) (entries : Entries) (e : ℕ × Decimal) → entry_at r (entries ++ e ∷ []) ≡ option_or (entry_at r entries) (entry_at r (e ∷ []))
entry_push r [] e = refl
entry_push r (f ∷ entries) e = push_case r (r == f.0) f _ _ (entry_at r (e ∷ [])) (entry_push r entries e)

entry_more : (r : ℕ) (entries : Entries) (i : ℕ) (e : ℕ × Decimal) → i < length entries → e ≡ get_or entries i e
    → entry_at r (take (i + 1) entries) ≡ option_or (entry_at r (take i entries)) (entry_at r (e ∷ []))
entry_more r entries i e h is =
    ap (entry_at r) (take_more entries i e h) ∙ ap (λ f. entry_at r (take i entries ++ f ∷ [])) (sym is) ∙ entry_push r (take i entries) e

own_entry : (r : ℕ) (e : ℕ × Decimal) → e.0 ≡ r → entry_at r (e ∷ []) ≡ Some e.1
own_entry r e is = ap (option_map (λ f. f.1)) (cond-true (r == e.0) (Some e) None (eq-eqb r e.0 (sym is)))

other_entry : (r : ℕ) (e : ℕ × Decimal) → (e.0 ≡ r → ⊥) → entry_at r (e ∷ []) ≡ None
other_entry r e apart = ap (option_map (λ f. f.1)) (cond-false (r == e.0) (Some e) None (ne_eqb r e.0 (λ is. apart (sym is))))

or_none : (o : Option Decimal) → option_or o None ≡ o
or_none None = refl
or_none (Some d) = refl

abbrev pub with_entry : ℕ → Decimal → Entries → Entries
with_entry j d now = cond (ends_in_column j now) now (now ++ (j, d) ∷ [])

seen_case : (before : Entries) (j : ℕ) (d : Decimal) (seen : Option Decimal) → AreEntriesBelow j before
    → with_entry j d (before ++ onto_entries j seen []) ≡ before ++ onto_entries j (option_or seen (Some d)) []
seen_case before j d None h =
    ap (with_entry j d) (append-nil before) ∙ cond-false (ends_in_column j before) before (before ++ (j, d) ∷ []) (ends_not before j h)
seen_case before j d (Some f) h = cond-true (ends_in_column j (before ++ (j, f) ∷ [])) _ _ (ends_new before j f)

-- what a row has of column j after the first i entries of the column
abbrev pub Gathered : Entries → ℕ → Entries → ℕ → ℕ → Entries → Type 0
Gathered before j entries i r now = now ≡ before ++ onto_entries j (entry_at r (take i entries)) []

pub own_step : (before now after : Entries) (j : ℕ) (entries : Entries) (i : ℕ) (e : ℕ × Decimal) → AreEntriesBelow j before → i < length entries → e ≡ get_or entries i e
    → Gathered before j entries i e.0 now → after ≡ with_entry j e.1 now → Gathered before j entries (i + 1) e.0 after
own_step before now after j entries i e h less item is step =
    let more = entry_more e.0 entries i e less item ∙ ap (option_or (entry_at e.0 (take i entries))) (own_entry e.0 e refl) in
    step ∙ ap (with_entry j e.1) is ∙ seen_case before j e.1 (entry_at e.0 (take i entries)) h ∙ sym (ap (λ o. before ++ onto_entries j o []) more)

pub other_step : (before now : Entries) (j r : ℕ) (entries : Entries) (i : ℕ) (e : ℕ × Decimal) → i < length entries → e ≡ get_or entries i e → (e.0 ≡ r → ⊥)
    → Gathered before j entries i r now → Gathered before j entries (i + 1) r now
other_step before now j r entries i e less item apart is =
    let more = entry_more r entries i e less item ∙ ap (option_or (entry_at r (take i entries))) (other_entry r e apart) ∙ or_none (entry_at r (take i entries)) in
    is ∙ sym (ap (λ o. before ++ onto_entries j o []) more)

abbrev pub AllGathered : List Entries → List Entries → ℕ → Entries → ℕ → Type 0
AllGathered first lists j entries i = (r : ℕ) → r < length lists → Gathered (get_or first r []) j entries i r (get_or lists r [])

-- an entry of a row that is there
pub gather : (first lists after : List Entries) (j : ℕ) (entries : Entries) (i : ℕ) (e : ℕ × Decimal) (new : Entries)
    → length first ≡ length lists → ((r : ℕ) → r < length first → AreEntriesBelow j (get_or first r [])) → i < length entries → e ≡ get_or entries i e → e.0 < length lists
    → new ≡ with_entry j e.1 (get_or lists e.0 []) → after ≡ set lists e.0 new → AllGathered first lists j entries i → AllGathered first after j entries (i + 1)
gather first lists after j entries i e new same below less item within is now before r h =
    let size : length after ≡ length lists = ap length now ∙ length-set lists e.0 new in
    let inside : r < length lists = omega (arith, size) in
    let at_row = own_step (get_or first e.0 []) (get_or lists e.0 []) new j entries i e (below e.0 (omega arith)) less item (before e.0 within) is in
    elim (cases_eq e.0 r) [
      | inl same_row ↦
          let H : ℕ → Type 0 = λ n. Gathered (get_or first n []) j entries (i + 1) n (get_or after n []) in
          let here : get_or after e.0 [] ≡ new = ap (λ xs. get_or xs e.0 []) now ∙ get_or-set_same lists e.0 new [] within in
          let F : Entries → Type 0 = Gathered (get_or first e.0 []) j entries (i + 1) e.0 in
          subst H same_row (subst F (sym here) at_row)
      | inr apart ↦
          let there : get_or after r [] ≡ get_or lists r [] = ap (λ xs. get_or xs r []) now ∙ get_or-set_other lists e.0 r new [] (λ q. apart (sym q)) in
          let G : Entries → Type 0 = Gathered (get_or first r []) j entries (i + 1) r in
          subst G (sym there) (other_step (get_or first r []) (get_or lists r []) j r entries i e less item apart (before r inside))
    ]

-- an entry of a row that is not there
pub skip : (first lists : List Entries) (j : ℕ) (entries : Entries) (i : ℕ) (e : ℕ × Decimal) → i < length entries → e ≡ get_or entries i e → length lists ≤ e.0
    → AllGathered first lists j entries i → AllGathered first lists j entries (i + 1)
skip first lists j entries i e less item past before r h =
    other_step (get_or first r []) (get_or lists r []) j r entries i e less item (λ same. omega arith) (before r h)

-- ---- all columns

onto_append : (j : ℕ) (d : Option Decimal) (xs ys : Entries) → onto_entries j d (xs ++ ys) ≡ onto_entries j d xs ++ ys
onto_append j None xs ys = refl
onto_append j (Some d) xs ys = refl

pub row_push : (r j : ℕ) (cols : List Column) (c : Column) → row_entries_from r j (cols ++ c ∷ []) ≡ row_entries_from r j cols ++ onto_entries (j + length cols) (entry_at r c.entries) []
row_push r j [] c = ap (λ n. onto_entries n (entry_at r c.entries) []) (omega arith)
row_push r j (b ∷ cols) c =
    ap (onto_entries j (entry_at r b.entries)) (row_push r (j + 1) cols c ∙ ap (λ n. row_entries_from r (j + 1) cols ++ onto_entries n (entry_at r c.entries) []) (omega arith))
    ∙ onto_append j (entry_at r b.entries) (row_entries_from r (j + 1) cols) _

pub earlier_columns : (cols : List Column) (r j : ℕ) (entries : Entries) → entries ≡ row_entries_from r 0 (take j cols) → AreEntriesBelow j entries
earlier_columns cols r j entries e =
    let F : Entries → Type 0 = AreEntriesBelow j in
    let size = length-take j cols in
    subst F (sym e) (entries_below j r 0 (take j cols) (omega (arith, size)))

-- one column more
pub later_column : (cols : List Column) (r j : ℕ) (c : Column) (before after : Entries) → j < length cols → c ≡ get_or cols j c → before ≡ row_entries_from r 0 (take j cols)
    → after ≡ before ++ onto_entries j (entry_at r c.entries) [] → after ≡ row_entries_from r 0 (take (j + 1) cols)
later_column cols r j c before after h is first now =
    let more = take_more cols j c h ∙ ap (λ b. take j cols ++ b ∷ []) (sym is) in
    let size : 0 + length (take j cols) ≡ j = let taken = length-take-le j cols (omega arith) in omega (arith, taken) in
    now ∙ ap (λ es. es ++ onto_entries j (entry_at r c.entries) []) first
    ∙ sym (ap (row_entries_from r 0) more ∙ row_push r 0 (take j cols) c ∙ ap (λ n. row_entries_from r 0 (take j cols) ++ onto_entries n (entry_at r c.entries) []) size)

-- all lists were written anew
pub all_written : (items lists : List Entries) (len : ℕ) → len ≡ length items → length lists ≡ length items → take len (lists ++ drop (length lists) items) ≡ lists
all_written items lists len h e =
    let rest = ap (λ n. drop n items) e ∙ drop-length items in
    ap (λ xs. take len (lists ++ xs)) rest ∙ ap (take len) (append-nil lists) ∙ take_all len lists (omega (arith, h, e))

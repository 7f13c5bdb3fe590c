-- What the bounds on each column come to, after a column more and after a bound more.
use Rattle.std.proofs.Common.{◌≡◌, refl, sym, ap, ap₂, ◌∙◌, subst, ℕ, Bool, true, false, cond, not, ◌&&◌, ◌||◌, List, [], ◌∷◌, ◌++◌, append-nil, map, filter_map, bytes_eq, get_or, position, Option, Some, None, is_some, unwrap_or}
use Rattle.std.specs.Prelude.{slice_get, slice_set}
use Rattle.std.specs.List.{list_any, cons_option, AllByRecursion}
use Rattle.std.proofs.Math.Bool.{not-not, or-false}
use Rattle.std.proofs.lemmas.List.{map-append}
use Rattle.std.proofs.lemmas.Option.{get_or_from_slice_get}
use Rattle.std.proofs.lemmas.List.Elements.{filter-append, filter_map-append}
use Rattle.std.proofs.lemmas.List.Folds.{list_any-append}
use Rattle.cgl_num.specs.Decimal.{Decimal}
use Rattle.cgl_num.specs.NumberText.{Word}
use Rattle.cgl_text.specs.Text.{is_one_of}
use Rattle.cgl_decode.specs.declared.kinds.Section.TheVariants.{Bounds}
use Rattle.cgl_decode.specs.Records.{Record}
use Rattle.cgl_decode.specs.Sections.{Bound, bound_in, same_set, set_in}
use Rattle.cgl_decode.specs.Models.{makes_integer, lower_of, upper_of, upper_by, value_in}
use Rattle.cgl_decode.specs.Reading.{setting, is_negative_upper, nothing}
use Rattle.cgl_decode.proofs.BoundLaws.{lower_of_push, upper_of_push}
use Rattle.cgl_decode.proofs.SoundLaws.{all_weaker}
use Rattle.cgl_decode.proofs.DistinctLaws.{equal_words, same_word, flip_differ}
use Rattle.cgl_mps.specs.declared.bound_table.ColumnBounds.{ColumnBounds}
use Rattle.cgl_mps.specs.Carried.{ReadBounds, after_bound, counting_set}
use Rattle.cgl_mps.specs.Tables.{StandOnce, BoundTable, AreBounds, bounds_on, column_bounds}
use Rattle.cgl_mps.proofs.PlacedLaws.{all_joined, made_at, set_at, still_among}

-- one bound more on a column

is_set_more : (l : List (Option Decimal)) (o : Option (Option Decimal)) → not (nothing (l ++ cons_option o [])) ≡ (not (nothing l) || is_some o)
is_set_more [] None = refl
is_set_more [] (Some x) = refl
is_set_more (x ∷ l) o = refl

-- what they come to with it
abbrev pub with_bound : ColumnBounds → Bound → ColumnBounds
with_bound before b =
    record {
      lower = unwrap_or (setting b) (cond (is_negative_upper b && not before.is_set) None before.lower);
      upper = unwrap_or (upper_by b.kind (value_in b)) before.upper;
      integer = before.integer || makes_integer b.kind;
      is_set = before.is_set || is_some (setting b);
    }

abbrev pub bounds_are : Option Decimal → Option Decimal → Bool → Bool → ColumnBounds
bounds_are lower upper integer is_set = record { lower = lower; upper = upper; integer = integer; is_set = is_set }

bounds_by : (bounds : ColumnBounds) (lower upper : Option Decimal) (integer is_set : Bool) → lower ≡ bounds.lower → upper ≡ bounds.upper → integer ≡ bounds.integer → is_set ≡ bounds.is_set
    → bounds_are lower upper integer is_set ≡ bounds
bounds_by bounds lower upper integer is_set lowers uppers integers sets =
    ap₂ (λ l u. bounds_are l u integer is_set) lowers uppers ∙ ap₂ (bounds_are bounds.lower bounds.upper) integers sets

bound_more : (bounds : List Bound) (b : Bound) → column_bounds (bounds ++ b ∷ []) ≡ with_bound (column_bounds bounds) b
bound_more bounds b =
    let sets = filter_map setting bounds in
    bounds_by (with_bound (column_bounds bounds) b) (lower_of (bounds ++ b ∷ [])) (upper_of (bounds ++ b ∷ []))
    (list_any (λ x. makes_integer x.kind) (bounds ++ b ∷ [])) (not (nothing (filter_map setting (bounds ++ b ∷ []))))
    (lower_of_push bounds b ∙ ap (λ n. unwrap_or (setting b) (cond (is_negative_upper b && n) None (lower_of bounds))) (sym (not-not (nothing sets))))
    (upper_of_push bounds b)
    (list_any-append (λ (x : Bound). makes_integer x.kind) bounds (b ∷ []) ∙ ap (λ c. list_any (λ (x : Bound). makes_integer x.kind) bounds || c) (or-false (makes_integer b.kind)))
    (ap (λ l. not (nothing l)) (filter_map-append setting bounds (b ∷ [])) ∙ is_set_more sets (setting b))

pub with_is : (bounds : List Bound) (b : Bound) (before : ColumnBounds) (lower upper : Option Decimal) (integer is_set : Bool)
    → before ≡ column_bounds bounds
    → lower ≡ (with_bound before b).lower → upper ≡ (with_bound before b).upper → integer ≡ (with_bound before b).integer → is_set ≡ (with_bound before b).is_set
    → bounds_are lower upper integer is_set ≡ column_bounds (bounds ++ b ∷ [])
with_is bounds b before lower upper integer is_set are lowers uppers integers sets =
    bounds_by (with_bound before b) lower upper integer is_set lowers uppers integers sets ∙ ap (λ x. with_bound x b) are ∙ sym (bound_more bounds b)

-- the bounds on a column, with one more on this column or on another

bounds_on-push : (bounds : List Bound) (b : Bound) (name : Word) (own : Bool) → bytes_eq name b.column ≡ own → bounds_on (bounds ++ b ∷ []) name ≡ bounds_on bounds name ++ cond own (b ∷ []) []
bounds_on-push bounds b name own is = filter-append (λ (x : Bound). bytes_eq name x.column) bounds (b ∷ []) ∙ ap (λ c. bounds_on bounds name ++ cond c (b ∷ []) []) is

abbrev pub on_column : List Bound → Word → ColumnBounds
on_column bounds name = column_bounds (bounds_on bounds name)

others_stay : (bounds : List Bound) (b : Bound) (other : Word) → bytes_eq b.column other ≡ false → on_column (bounds ++ b ∷ []) other ≡ on_column bounds other
others_stay bounds b other differ =
    ap column_bounds (bounds_on-push bounds b other false (flip_differ b.column other differ) ∙ append-nil (bounds_on bounds other))

pub bound_put : (names : List Word) (bounds : List Bound) (b : Bound) (place : ℕ) (old new : List ColumnBounds) (found later : ColumnBounds)
    → StandOnce names → position (bytes_eq b.column) names ≡ Some place → old ≡ map (on_column bounds) names
    → found ≡ get_or old place found
    → ((before : List Bound) → found ≡ column_bounds before → later ≡ column_bounds (before ++ b ∷ []))
    → new ≡ slice_set old place later
    → new ≡ map (on_column (bounds ++ b ∷ [])) names
bound_put names bounds b place old new found later once at are is with set =
    let name = b.column in
    let there : found ≡ on_column bounds name =
    is ∙ get_or_from_slice_get old place (on_column bounds name) found (ap (λ vs. slice_get vs place) are ∙ made_at (on_column bounds) names name place at) in
    set
    ∙ ap₂ (λ vs v. slice_set vs place v) are
    (with (bounds_on bounds name) there ∙ ap column_bounds (sym (bounds_on-push bounds b name true (same_word name name refl))))
    ∙ set_at (on_column bounds) (on_column (bounds ++ b ∷ [])) names name place once at (others_stay bounds b)

-- a column more, which no bound is on

abbrev AreOn : List Word → List Bound → Type 0
AreOn names bounds = AllByRecursion (λ b. is_one_of names b.column ≡ true) bounds

differ_case : (names : List Word) (name column : Word) → is_one_of names name ≡ false → is_one_of names column ≡ true → (b : Bool) → bytes_eq name column ≡ b → b ≡ false
differ_case names name column new among true same = sym among ∙ ap (is_one_of names) (sym (equal_words name column same)) ∙ new
differ_case names name column new among false differ = refl

none_on : (names : List Word) (name : Word) (bounds : List Bound) → is_one_of names name ≡ false → AreOn names bounds → bounds_on bounds name ≡ []
none_on names name [] new are = refl
none_on names name (b ∷ bounds) new are =
    ap (λ c. cond c (b ∷ bounds_on bounds name) (bounds_on bounds name)) (differ_case names name b.column new are.0 (bytes_eq name b.column) refl) ∙ none_on names name bounds new are.1

pub column_added : (names : List Word) (read : ReadBounds) (name : Word) (old new : BoundTable) → AreBounds names read old → is_one_of names name ≡ false
    → new.set ≡ old.set → new.columns ≡ old.columns ++ column_bounds [] ∷ []
    → AreBounds (names ++ name ∷ []) read new
column_added names read name old new are fresh set columns =
    record {
      set = set ∙ are.set;
      columns =
          columns
          ∙ ap₂ (λ vs bounds. vs ++ column_bounds bounds ∷ []) are.columns (sym (none_on names name read.bounds fresh are.known))
          ∙ sym (map-append (on_column read.bounds) names (name ∷ []));
      known =
          all_weaker (λ (b : Bound). is_one_of names b.column ≡ true) (λ (b : Bound). is_one_of (names ++ name ∷ []) b.column ≡ true)
          (λ b is. still_among names name b.column is) read.bounds are.known;
    }

-- at a column's place
pub bounds_there : (names : List Word) (read : ReadBounds) (name : Word) (place : ℕ) (table : BoundTable) → AreBounds names read table → position (bytes_eq name) names ≡ Some place
    → unwrap_or (slice_get table.columns place) (column_bounds []) ≡ on_column read.bounds name
bounds_there names read name place table are found =
    ap (λ vs. unwrap_or (slice_get vs place) (column_bounds [])) are.columns ∙ ap (λ (o : Option ColumnBounds). unwrap_or o (column_bounds [])) (made_at (on_column read.bounds) names name place found)

-- one line more

abbrev own_set : Record → Option Word
own_set r = set_in Bounds r

abbrev counts : ReadBounds → Record → Bool
counts read r = same_set (counting_set read.set (own_set r)) (own_set r)

abbrev said : Record → List Bound
said r = cons_option (bound_in r.fields) []

-- what its bounds, none or one, make of those before
line_adds : (names : List Word) (read : ReadBounds) (r : Record) (new : BoundTable) (more : List Bound)
    → AreOn names read.bounds → AreOn names more → cond (counts read r) (said r) [] ≡ more
    → new.set ≡ Some (counting_set read.set (own_set r)) → new.columns ≡ map (on_column (read.bounds ++ more)) names
    → AreBounds names (after_bound read r) new
line_adds names read r new more known those is set columns =
    record {
      set = set;
      columns = columns ∙ ap (λ bs. map (on_column (read.bounds ++ bs)) names) (sym is);
      known = subst (λ (bs : List Bound). AreOn names (read.bounds ++ bs)) (sym is) (all_joined (λ (b : Bound). is_one_of names b.column ≡ true) read.bounds more known those);
    }

pub line_counts : (names : List Word) (read : ReadBounds) (r : Record) (new : BoundTable) (b : Bound)
    → AreOn names read.bounds → is_one_of names b.column ≡ true → counts read r ≡ true → bound_in r.fields ≡ Some b
    → new.set ≡ Some (counting_set read.set (own_set r)) → new.columns ≡ map (on_column (read.bounds ++ b ∷ [])) names
    → AreBounds names (after_bound read r) new
line_counts names read r new b known here counted is set columns =
    line_adds names read r new (b ∷ []) known (here, tt) (ap₂ (λ c o. cond c (cons_option o []) []) counted is) set columns

no_more : (names : List Word) (read : ReadBounds) (r : Record) (new : BoundTable) → AreOn names read.bounds → cond (counts read r) (said r) [] ≡ []
    → new.set ≡ Some (counting_set read.set (own_set r)) → new.columns ≡ map (on_column read.bounds) names
    → AreBounds names (after_bound read r) new
no_more names read r new known is set columns =
    line_adds names read r new [] known tt is set (columns ∙ ap (λ bs. map (on_column bs) names) (sym (append-nil read.bounds)))

pub line_passes : (names : List Word) (read : ReadBounds) (r : Record) (new : BoundTable) → AreOn names read.bounds → counts read r ≡ false
    → new.set ≡ Some (counting_set read.set (own_set r)) → new.columns ≡ map (on_column read.bounds) names
    → AreBounds names (after_bound read r) new
line_passes names read r new known passed set columns = no_more names read r new known (ap (λ c. cond c (said r) []) passed) set columns

says_none : (b : Bool) (o : Option Bound) → o ≡ None → cond b (cons_option o []) [] ≡ []
says_none true o is = ap (λ x. cons_option x []) is
says_none false o is = refl

pub line_says_none : (names : List Word) (read : ReadBounds) (r : Record) (new : BoundTable) → AreOn names read.bounds → bound_in r.fields ≡ None
    → new.set ≡ Some (counting_set read.set (own_set r)) → new.columns ≡ map (on_column read.bounds) names
    → AreBounds names (after_bound read r) new
line_says_none names read r new known is set columns = no_more names read r new known (says_none (counts read r) (bound_in r.fields) is) set columns

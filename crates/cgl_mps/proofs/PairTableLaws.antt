-- The values of RHS or of RANGES, after a row more and after a pair more.
use Rattle.std.proofs.Common.{◌≡◌, refl, sym, ap, ap₂, ◌∙◌, subst, arith, ℕ, ◌-◌, ◌<◌, ◌≤◌, Bool, true, false, cond, ◌||◌, List, [], ◌∷◌, ◌++◌, append-nil, length, map, drop, take, take_all, bytes_eq, find, get_or, position, Option, Some, None, is_some, unwrap_or, option_and_then}
use Rattle.std.specs.Prelude.{slice_get, slice_set}
use Rattle.std.proofs.lemmas.List.{map-append}
use Rattle.std.proofs.lemmas.Option.{get_or_from_slice_get}
use denote.Ref.{Bor}
use Rattle.cgl_num.specs.Decimal.{Decimal}
use Rattle.cgl_num.specs.NumberText.{Word, number}
use Rattle.cgl_text.specs.Seen.{words}
use Rattle.cgl_text.specs.Text.{is_one_of}
use Rattle.cgl_decode.specs.declared.kinds.Section.{Section}
use Rattle.cgl_decode.specs.Records.{Record}
use Rattle.cgl_decode.specs.Sections.{Pair, pairs_of, same_set, set_in, set_pairs}
use Rattle.cgl_decode.specs.Faults.{names_row}
use Rattle.cgl_decode.specs.Models.{value_at}
use Rattle.cgl_decode.proofs.SoundLaws.{all_weaker}
use Rattle.cgl_decode.proofs.DistinctLaws.{equal_words, same_word, flip_differ}
use Rattle.cgl_mps.specs.Carried.{ReadPairs, after_pairs, counting_set}
use Rattle.cgl_mps.specs.Tables.{StandOnce, IsKnown, AreKnown, PairTable, ArePairs}
use Rattle.cgl_mps.proofs.PlacedLaws.{all_joined, made_at, set_at, still_among}

abbrev pub none : Option Decimal
none = None

-- a row that no pair names has no value

unnamed : (rows : List Word) (name row : Word) → is_one_of rows name ≡ false → is_one_of rows row ≡ true → (b : Bool) → bytes_eq name row ≡ b → b ≡ false
unnamed rows name row new among true same = sym among ∙ ap (is_one_of rows) (sym (equal_words name row same)) ∙ new
unnamed rows name row new among false differ = refl

pub no_value : (rows : List Word) (pairs : List Pair) (name : Word) → AreKnown rows pairs → is_one_of rows name ≡ false → value_at pairs name ≡ None
no_value rows [] name known new = refl
no_value rows (pair ∷ pairs) name known new =
    ap (λ b. option_and_then (λ (p : Pair). number p.1) (cond b (Some pair) (find (λ (p : Pair). bytes_eq name p.0) pairs))) (unnamed rows name pair.0 new known.0.0 (bytes_eq name pair.0) refl)
    ∙ no_value rows pairs name known.1 new

pub known_still : (rows : List Word) (name : Word) (pairs : List Pair) → AreKnown rows pairs → AreKnown (rows ++ name ∷ []) pairs
known_still rows name pairs known =
    all_weaker (IsKnown rows) (IsKnown (rows ++ name ∷ [])) (λ pair is. (still_among rows name pair.0 is.0, is.1)) pairs known

pub row_added : (rows : List Word) (read : ReadPairs) (name : Word) (old new : PairTable) → ArePairs rows read old → is_one_of rows name ≡ false → new.set ≡ old.set → new.values ≡ old.values ++ none ∷ []
    → ArePairs (rows ++ name ∷ []) read new
row_added rows read name old new are fresh set values =
    record {
      set = set ∙ are.set;
      values =
          values
          ∙ ap₂ (λ vs (v : Option Decimal). vs ++ v ∷ []) are.values (sym (no_value rows read.pairs name are.known fresh))
          ∙ sym (map-append (value_at read.pairs) rows (name ∷ []));
      known = known_still rows name read.pairs are.known;
    }

-- the value at a row's place

pub value_there : (rows : List Word) (read : ReadPairs) (row : Word) (place : ℕ) (table : PairTable) → ArePairs rows read table → position (bytes_eq row) rows ≡ Some place
    → unwrap_or (slice_get table.values place) None ≡ value_at read.pairs row
value_there rows read row place table are found =
    ap (λ vs. unwrap_or (slice_get vs place) None) are.values ∙ ap (λ (o : Option (Option Decimal)). unwrap_or o None) (made_at (value_at read.pairs) rows row place found)

named_case : (rows : List Word) (pair : Pair) (pairs : List Pair) (row : Word) → is_some (number pair.1) ≡ true → is_some (value_at pairs row) ≡ names_row pairs row → (b : Bool)
    → is_some (option_and_then (λ (p : Pair). number p.1) (cond b (Some pair) (find (λ (p : Pair). bytes_eq row p.0) pairs))) ≡ (b || names_row pairs row)
named_case rows pair pairs row good later true = good
named_case rows pair pairs row good later false = later

-- a row has a value where a pair names it
pub has_value : (rows : List Word) (pairs : List Pair) (row : Word) → AreKnown rows pairs → is_some (value_at pairs row) ≡ names_row pairs row
has_value rows [] row known = refl
has_value rows (pair ∷ pairs) row known = named_case rows pair pairs row known.0.1 (has_value rows pairs row known.1) (bytes_eq row pair.0)

-- one pair more: the first value of a row stays

abbrev pub first_value : Option Decimal → Option Decimal → Option Decimal
first_value None later = later
first_value (Some value) later = Some value

value_case : (pair : Pair) (pairs more : List Pair) (row : Word) (later : Option Decimal) → is_some (number pair.1) ≡ true → value_at (pairs ++ more) row ≡ first_value (value_at pairs row) later → (b : Bool)
    → option_and_then (λ (p : Pair). number p.1) (cond b (Some pair) (find (λ (p : Pair). bytes_eq row p.0) (pairs ++ more)))
    ≡ first_value (option_and_then (λ (p : Pair). number p.1) (cond b (Some pair) (find (λ (p : Pair). bytes_eq row p.0) pairs))) later
value_case pair pairs more row later good so_far true = kept (number pair.1) good
  where
    kept : (value : Option Decimal) → is_some value ≡ true → value ≡ first_value value later
    kept None some = cc
    kept (Some value) some = refl
value_case pair pairs more row later good so_far false = so_far

value_at-append : (rows : List Word) (pairs more : List Pair) (row : Word) → AreKnown rows pairs → value_at (pairs ++ more) row ≡ first_value (value_at pairs row) (value_at more row)
value_at-append rows [] more row known = refl
value_at-append rows (pair ∷ pairs) more row known = value_case pair pairs more row (value_at more row) known.0.1 (value_at-append rows pairs more row known.1) (bytes_eq row pair.0)

first_or_none : (value : Option Decimal) → first_value value None ≡ value
first_or_none None = refl
first_or_none (Some value) = refl

abbrev with_pair : List Pair → Pair → Word → Option Decimal
with_pair pairs pair row = value_at (pairs ++ pair ∷ []) row

one_value : (pair : Pair) (row : Word) (b : Bool) → bytes_eq row pair.0 ≡ b → value_at (pair ∷ []) row ≡ cond b (number pair.1) None
one_value pair row true is = ap (λ b. option_and_then (λ (p : Pair). number p.1) (cond b (Some pair) None)) is
one_value pair row false is = ap (λ b. option_and_then (λ (p : Pair). number p.1) (cond b (Some pair) None)) is

others_stay : (rows : List Word) (pairs : List Pair) (pair : Pair) (other : Word) → AreKnown rows pairs → bytes_eq pair.0 other ≡ false → with_pair pairs pair other ≡ value_at pairs other
others_stay rows pairs pair other known differ =
    value_at-append rows pairs (pair ∷ []) other known
    ∙ ap (first_value (value_at pairs other)) (one_value pair other false (flip_differ pair.0 other differ))
    ∙ first_or_none (value_at pairs other)

here : (rows : List Word) (pairs : List Pair) (pair : Pair) → AreKnown rows pairs → with_pair pairs pair pair.0 ≡ first_value (value_at pairs pair.0) (number pair.1)
here rows pairs pair known =
    value_at-append rows pairs (pair ∷ []) pair.0 known
    ∙ ap (first_value (value_at pairs pair.0)) (one_value pair pair.0 true (same_word pair.0 pair.0 refl))

-- what stands at the row's place
stands : (rows : List Word) (pairs : List Pair) (row : Word) (place : ℕ) (old : List (Option Decimal)) (found : Option Decimal) → position (bytes_eq row) rows ≡ Some place → old ≡ map (value_at pairs) rows → found ≡ get_or old place found
    → found ≡ value_at pairs row
stands rows pairs row place old found at are is =
    is ∙ get_or_from_slice_get old place (value_at pairs row) found (ap (λ vs. slice_get vs place) are ∙ made_at (value_at pairs) rows row place at)

pub first_none : (value later : Option Decimal) → is_some value ≡ false → later ≡ first_value value later
first_none None later empty = refl
first_none (Some value) later empty = cc

pub first_some : (value later : Option Decimal) → is_some value ≡ true → value ≡ first_value value later
first_some None later full = cc
first_some (Some value) later full = refl

pub value_put : (rows : List Word) (pairs : List Pair) (row value : Word) (place : ℕ) (old new : List (Option Decimal)) (found later : Option Decimal)
    → StandOnce rows → AreKnown rows pairs → position (bytes_eq row) rows ≡ Some place → old ≡ map (value_at pairs) rows
    → found ≡ get_or old place found → later ≡ first_value found (number value) → new ≡ slice_set old place later
    → new ≡ map (value_at (pairs ++ (row, value) ∷ [])) rows
value_put rows pairs row value place old new found later once known at are is first set =
    set
    ∙ ap₂ (λ vs v. slice_set vs place v) are
    (first ∙ ap (λ v. first_value v (number value)) (stands rows pairs row place old found at are is) ∙ sym (here rows pairs (row, value) known))
    ∙ set_at (value_at pairs) (with_pair pairs (row, value)) rows row place once at (λ other differ. others_stay rows pairs (row, value) other known differ)

-- one line more

pub known_more : (rows : List Word) (pairs more : List Pair) → AreKnown rows pairs → AreKnown rows more → AreKnown rows (pairs ++ more)
known_more rows pairs more these those = all_joined (IsKnown rows) pairs more these those

abbrev counts : Section → ReadPairs → Record → Bool
counts section read r = same_set (counting_set read.set (set_in section r)) (set_in section r)

pub line_counts : (rows : List Word) (section : Section) (read : ReadPairs) (r : Record) (new : PairTable)
    → AreKnown rows read.pairs → AreKnown rows (set_pairs r) → counts section read r ≡ true
    → new.set ≡ Some (counting_set read.set (set_in section r)) → new.values ≡ map (value_at (read.pairs ++ set_pairs r)) rows
    → ArePairs rows (after_pairs section read r) new
line_counts rows section read r new known good counted set values =
    record {
      set = set;
      values = values ∙ ap (λ b. map (value_at (read.pairs ++ cond b (set_pairs r) [])) rows) (sym counted);
      known = subst (λ (b : Bool). AreKnown rows (read.pairs ++ cond b (set_pairs r) [])) (sym counted) (known_more rows read.pairs (set_pairs r) known good);
    }

pub line_passes : (rows : List Word) (section : Section) (read : ReadPairs) (r : Record) (new : PairTable)
    → AreKnown rows read.pairs → counts section read r ≡ false
    → new.set ≡ Some (counting_set read.set (set_in section r)) → new.values ≡ map (value_at read.pairs) rows
    → ArePairs rows (after_pairs section read r) new
line_passes rows section read r new known passed set values =
    let same : read.pairs ++ cond (counts section read r) (set_pairs r) [] ≡ read.pairs = ap (λ b. read.pairs ++ cond b (set_pairs r) []) passed ∙ append-nil read.pairs in
    record {
      set = set;
      values = values ∙ ap (λ ps. map (value_at ps) rows) (sym same);
      known = subst (AreKnown rows) (sym same) known;
    }

-- the fields of a line, two by two

pub no_pair : (fields : List (Bor Word)) → length fields < 2 → pairs_of (words fields) ≡ []
no_pair [] few = refl
no_pair (a ∷ []) few = refl
no_pair (a ∷ (b ∷ fields)) few = absurd (omega arith)

pub first_pair : (fields : List (Bor Word)) (empty : Bor Word) → 2 ≤ length fields
    → pairs_of (words fields) ≡ ((get_or fields 0 empty).now, (get_or fields 1 empty).now) ∷ pairs_of (words (take (length fields - 2) (drop 2 fields)))
first_pair [] empty two = absurd (omega arith)
first_pair (a ∷ []) empty two = absurd (omega arith)
first_pair (a ∷ (b ∷ fields)) empty two = ap (λ l. (a.now, b.now) ∷ pairs_of (words l)) (sym (take_all (length (a ∷ (b ∷ fields)) - 2) fields (omega arith)))

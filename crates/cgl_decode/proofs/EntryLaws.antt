-- Places of names, and the entries that pairs give.
use Rattle.std.proofs.Common.{◌≡◌, refl, sym, ap, ap₂, ◌∙◌, subst, arith, ℕ, suc, ◌+◌, ◌-◌, ◌<◌, ◌≤◌, ◌==◌, Bool, true, false, cond, not, ◌||◌, List, [], ◌∷◌, length, get_or, filter_map, bytes_eq, position, Option, Some, None, is_none, option_map, option_and_then}
use Rattle.std.specs.List.{AllByRecursion, list_any, cons_option, position_from}
use Rattle.std.proofs.lemmas.Bool.{eqb-true}
use Rattle.std.proofs.lemmas.Iterator.Adapters.{position_from-zero}
use Rattle.cgl_num.specs.NumberText.{Word, number}
use Rattle.cgl_num.specs.Decimal.{Decimal}
use Rattle.cgl_text.specs.Text.{is_one_of}
use Rattle.cgl_model.specs.Valid.{AreDistinct, AreDistinctRows}
use Rattle.cgl_decode.specs.Sections.{Pair}
use Rattle.cgl_decode.specs.Models.{entry_of}
use Rattle.cgl_decode.proofs.DistinctLaws.{equal_words, same_word, or_false_parts, not_false}
use Rattle.cgl_decode.proofs.SoundLaws.{IsKnown, firsts}

-- places

from_case : (p : Word → Bool) (word : Word) (words : List Word) (k i : ℕ)
    → (position_from p (k + 1) words ≡ Some i → (k + 1 ≤ i) × (i < k + 1 + length words) × (p (get_or words (i - (k + 1)) []) ≡ true))
    → (b : Bool) → p word ≡ b → cond b (Some k) (position_from p (k + 1) words) ≡ Some i
    → (k ≤ i) × (i < k + suc (length words)) × (p (get_or (word ∷ words) (i - k) []) ≡ true)
from_case p word words k i later true is at =
    let same : k ≡ i = cc in
    let first : i - k ≡ 0 = omega arith in
    (omega arith, omega arith, ap (λ n. p (get_or (word ∷ words) n [])) first ∙ is)
from_case p word words k i later false is at =
    let rest = later at in
    let next : i - k ≡ suc (i - (k + 1)) = omega (arith, rest.0) in
    (omega (arith, rest.0), omega (arith, rest.1), ap (λ n. p (get_or (word ∷ words) n [])) next ∙ rest.2)

from_reads : (p : Word → Bool) (words : List Word) (k i : ℕ) → position_from p k words ≡ Some i → (k ≤ i) × (i < k + length words) × (p (get_or words (i - k) []) ≡ true)
from_reads p [] k i at = cc
from_reads p (word ∷ words) k i at = from_case p word words k i (from_reads p words (k + 1) i) (p word) refl at

pub position_reads : (p : Word → Bool) (words : List Word) (i : ℕ) → position p words ≡ Some i → (i < length words) × (p (get_or words i []) ≡ true)
position_reads p words i at =
    let reads = from_reads p words 0 i (sym (position_from-zero p words) ∙ at) in
    let start : i - 0 ≡ i = omega arith in
    (omega (arith, reads.1), sym (ap (λ n. p (get_or words n [])) start) ∙ reads.2)

found_case : (p : Word → Bool) (word : Word) (words : List Word) (k : ℕ) → (list_any p words ≡ true → (i : ℕ) × (position_from p (k + 1) words ≡ Some i))
    → (b : Bool) → (b || list_any p words) ≡ true → (i : ℕ) × (cond b (Some k) (position_from p (k + 1) words) ≡ Some i)
found_case p word words k later true some = (k, refl)
found_case p word words k later false some = later some

found_from : (p : Word → Bool) (words : List Word) (k : ℕ) → list_any p words ≡ true → (i : ℕ) × (position_from p k words ≡ Some i)
found_from p [] k some = cc
found_from p (word ∷ words) k some = found_case p word words k (found_from p words (k + 1)) (p word) some

pub position_found : (p : Word → Bool) (words : List Word) → list_any p words ≡ true → (i : ℕ) × (position p words ≡ Some i)
position_found p words some = let found = found_from p words 0 some in (found.0, position_from-zero p words ∙ found.1)

-- the entry of a pair whose row and value are known

pub record IsEntry (names : List Word) (p : Pair) (e : ℕ × Decimal) : Type 0 where
  pub is : entry_of names p ≡ Some e
  pub below : e.0 < length names
  pub reads : p.0 ≡ get_or names e.0 []

number_case : (o : Option Decimal) → is_none o ≡ false → (d : Decimal) × (o ≡ Some d)
number_case None some = cc
number_case (Some d) some = (d, refl)

abbrev entry_at : Option ℕ → Option Decimal → Option (ℕ × Decimal)
entry_at at value = option_and_then (λ i. option_map (λ d. (i, d)) value) at

entry_parts : (i : ℕ) (d : Decimal) (at : Option ℕ) (value : Option Decimal) → at ≡ Some i → value ≡ Some d → entry_at at value ≡ Some (i, d)
entry_parts i d at value place is = ap₂ entry_at place is

pub entry_known : (names : List Word) (p : Pair) → IsKnown names p → (e : ℕ × Decimal) × IsEntry names p e
entry_known names p known =
    let at = position_found (bytes_eq p.0) names known.row in
    let value = number_case (number p.1) known.value in
    let reads = position_reads (bytes_eq p.0) names at.0 at.1 in (
      (at.0, value.0),
      record {
        is = entry_parts at.0 value.0 (position (bytes_eq p.0) names) (number p.1) at.1 value.1;
        below = reads.0;
        reads = equal_words p.0 (get_or names at.0 []) reads.1;
      },
    )

-- as many entries as pairs
pub entries_many : (names : List Word) (pairs : List Pair) → AllByRecursion (IsKnown names) pairs → length (filter_map (entry_of names) pairs) ≡ length pairs
entries_many names [] all = refl
entries_many names (p ∷ pairs) all =
    let own = entry_known names p all.0 in
    ap (λ o. length (cons_option o (filter_map (entry_of names) pairs))) own.1.is ∙ ap suc (entries_many names pairs all.1)

-- each of a row that is there
pub entries_below : (names : List Word) (pairs : List Pair) → AllByRecursion (IsKnown names) pairs → AllByRecursion (λ (e : ℕ × Decimal). e.0 < length names) (filter_map (entry_of names) pairs)
entries_below names [] all = tt
entries_below names (p ∷ pairs) all =
    let own = entry_known names p all.0 in
    let Below : Option (ℕ × Decimal) → Type 0 = λ o. AllByRecursion (λ (e : ℕ × Decimal). e.0 < length names) (cons_option o (filter_map (entry_of names) pairs)) in
    subst Below (sym own.1.is) (own.1.below, entries_below names pairs all.1)

apart_case : (names : List Word) (row : Word) (p : Pair) (i j : ℕ) → row ≡ get_or names i [] → p.0 ≡ get_or names j [] → bytes_eq row p.0 ≡ false → (b : Bool) → (i == j) ≡ b → b ≡ false
apart_case names row p i j here there differ true is =
    let same : i ≡ j = eqb-true i j is in
    sym (same_word row p.0 (here ∙ ap (λ n. get_or names n []) same ∙ sym there)) ∙ differ
apart_case names row p i j here there differ false is = refl

none_there : (names : List Word) (row : Word) (i : ℕ) → row ≡ get_or names i [] → (pairs : List Pair) → AllByRecursion (IsKnown names) pairs → is_one_of (firsts pairs) row ≡ false
    → list_any (λ (other : ℕ × Decimal). i == other.0) (filter_map (entry_of names) pairs) ≡ false
none_there names row i here [] all none = refl
none_there names row i here (p ∷ pairs) all none =
    let own = entry_known names p all.0 in
    let parts = or_false_parts (bytes_eq row p.0) (is_one_of (firsts pairs) row) none in
    let apart = apart_case names row p i own.0.0 here own.1.reads parts.0 (i == own.0.0) refl in
    ap (λ o. list_any (λ (other : ℕ × Decimal). i == other.0) (cons_option o (filter_map (entry_of names) pairs))) own.1.is
    ∙ ap₂ (λ a b. a || b) apart (none_there names row i here pairs all.1 parts.1)

-- each of another row
pub entries_apart : (names : List Word) (pairs : List Pair) → AllByRecursion (IsKnown names) pairs → AreDistinct (firsts pairs) → AreDistinctRows (filter_map (entry_of names) pairs)
entries_apart names [] all once = tt
entries_apart names (p ∷ pairs) all once =
    let own = entry_known names p all.0 in
    let Apart : Option (ℕ × Decimal) → Type 0 = λ o. AreDistinctRows (cons_option o (filter_map (entry_of names) pairs)) in
    subst Apart (sym own.1.is)
    (ap not (none_there names p.0 own.0.0 own.1.reads pairs all.1 (not_false (is_one_of (firsts pairs) p.0) once.0)), entries_apart names pairs all.1 once.1)

-- Pairs of a column's line by the rows so far.
use Rattle.std.proofs.Common.{◌≡◌, refl, sym, ap, ap₂, ◌∙◌, arith, ℕ, ◌-◌, ◌<◌, ◌≤◌, true, is_some, List, [], ◌∷◌, ◌++◌, append-nil, append_assoc, drop, get_or, length, take}
use Rattle.std.proofs.lemmas.List.{take_rest}
use denote.Ref.{Bor}
use Rattle.cgl_num.specs.NumberText.{Word}
use Rattle.cgl_text.specs.Seen.{words}
use Rattle.cgl_decode.specs.Sections.{Pair, pairs_of}
use Rattle.cgl_mps.specs.Seen.{word_at}
use Rattle.cgl_mps.specs.Carried.{ReadColumns, after_more}
use Rattle.cgl_mps.specs.declared.resolve.Resolved.{Resolved}
use Rattle.cgl_mps.specs.Tables.{AreColumns, AreKnown, ColumnTable, IsKnown, resolved, resolved_all, resolved_at, unresolved}
use Rattle.cgl_mps.proofs.ColumnTableLaws.{no_pair, no_pairs, pairs_added}

pub none_more : (rows : List Word) (before : List Resolved) (fields : List (Bor (List ℕ))) → length fields < 2 → before ≡ before ++ resolved_all rows (pairs_of (words fields))
none_more rows before fields lt = sym (ap (λ l. before ++ resolved_all rows l) (no_pair fields lt) ∙ append-nil before)

pub one_more : (rows : List Word) (old mid new : List Resolved) (first : Pair) (others pairs : List Pair) → pairs ≡ first ∷ others
    → mid ≡ old ++ resolved rows first ∷ [] → new ≡ mid ++ resolved_all rows others → new ≡ old ++ resolved_all rows pairs
one_more rows old mid new first others pairs split one rest =
    rest ∙ ap (λ l. l ++ resolved_all rows others) one ∙ append_assoc old (resolved rows first ∷ []) (resolved_all rows others) ∙ ap (λ l. old ++ resolved_all rows l) (sym split)

-- the first and the second pair of the fields

first_of : (rows : List Word) (fields : List (Bor (List ℕ))) → 2 ≤ length fields → resolved_at 0 (resolved_all rows (pairs_of (words fields))) ≡ resolved rows (word_at 0 fields, word_at 1 fields)
first_of rows [] le = absurd (omega arith)
first_of rows (a ∷ []) le = absurd (omega arith)
first_of rows (a ∷ (b ∷ fields)) le = refl

second_of : (rows : List Word) (fields : List (Bor (List ℕ))) → 4 ≤ length fields → resolved_at 1 (resolved_all rows (pairs_of (words fields))) ≡ resolved rows (word_at 2 fields, word_at 3 fields)
second_of rows [] le = absurd (omega arith)
second_of rows (a ∷ []) le = absurd (omega arith)
second_of rows (a ∷ (b ∷ [])) le = absurd (omega arith)
second_of rows (a ∷ (b ∷ (c ∷ []))) le = absurd (omega arith)
second_of rows (a ∷ (b ∷ (c ∷ (d ∷ fields)))) le = refl

-- a pair at hand with the word in the place of its row is that of the line

pub first_resolved : (rows : List Word) (fields : List (Bor (List ℕ))) (pairs : List Resolved) (pair : Resolved) (row : Word)
    → pairs ≡ resolved_all rows (pairs_of (words fields)) → 2 ≤ length fields → pair ≡ resolved_at 0 pairs → row ≡ word_at 0 fields → pair ≡ resolved rows (row, word_at 1 fields)
first_resolved rows fields pairs pair row all le at named = at ∙ ap (resolved_at 0) all ∙ first_of rows fields le ∙ ap (λ w. resolved rows (w, word_at 1 fields)) (sym named)

pub second_resolved : (rows : List Word) (fields : List (Bor (List ℕ))) (pairs : List Resolved) (pair : Resolved) (row : Word)
    → pairs ≡ resolved_all rows (pairs_of (words fields)) → 4 ≤ length fields → pair ≡ resolved_at 1 pairs → row ≡ word_at 2 fields → pair ≡ resolved rows (row, word_at 3 fields)
second_resolved rows fields pairs pair row all le at named = at ∙ ap (resolved_at 1) all ∙ second_of rows fields le ∙ ap (λ w. resolved rows (w, word_at 3 fields)) (sym named)

-- the pairs that a column takes

no_first : (first : Resolved) (others : List Resolved) → [] ≡ first ∷ others → ⊥
no_first first others e = cc

pub none_pushed : (rows : List Word) (t : ColumnTable) (found : List Resolved) (pairs : List Pair) → found ≡ [] → found ≡ resolved_all rows pairs
    → (read : ReadColumns) → AreColumns rows read t → AreColumns rows (after_more read pairs) t
none_pushed rows t found [] none says read is = no_pairs rows t [] refl read is
none_pushed rows t found (pair ∷ pairs) none says read is = absurd (no_first (resolved rows pair) (resolved_all rows pairs) (sym none ∙ says))

pub split_first : (found : List Resolved) (d first : Resolved) → 1 ≤ length found → first ≡ get_or found 0 d → found ≡ first ∷ take (length found - 1) (drop 1 found)
split_first [] d first le is = absurd (omega arith)
split_first (a ∷ found) d first le is = ap₂ (λ (p : Resolved) (l : List Resolved). p ∷ l) (sym is) (sym (take_rest (a ∷ found) 1))

-- what a call that takes one pair says, and one that takes several

abbrev pub TakesPair : Resolved → ColumnTable → ColumnTable → Type 0
TakesPair found old new =
    (rows : List Word) (read : ReadColumns) (pair : Pair) → AreColumns rows read old → is_some read.current ≡ true → IsKnown rows pair → found ≡ resolved rows pair
    → AreColumns rows (after_more read (pair ∷ [])) new

abbrev pub TakesPairs : List Resolved → ColumnTable → ColumnTable → Type 0
TakesPairs found old new =
    (rows : List Word) (read : ReadColumns) (pairs : List Pair) → AreColumns rows read old → is_some read.current ≡ true → AreKnown rows pairs → found ≡ resolved_all rows pairs
    → AreColumns rows (after_more read pairs) new

pub pairs_pushed : (found : List Resolved) (first : Resolved) (others : List Resolved) (old mid new : ColumnTable) → found ≡ first ∷ others
    → TakesPair first old mid → TakesPairs others mid new → TakesPairs found old new
pairs_pushed found first others old mid new split one rest rows read [] is some known says = absurd (no_first first others (sym says ∙ split))
pairs_pushed found first others old mid new split one rest rows read (pair ∷ pairs) is some known says =
    let all : first ∷ others ≡ resolved rows pair ∷ resolved_all rows pairs = sym split ∙ says in
    pairs_added rows old mid new pair pairs (pair ∷ pairs) refl
    (λ next at has knows. one rows next pair at has knows (ap (λ l. get_or l 0 unresolved) all))
    (λ next at has knows. rest rows next pairs at has knows (ap (λ l. drop 1 l) all))
    read is some known

-- The first condition that holds, and the judgement of a line's pairs.
use Rattle.std.proofs.Common.{◌≡◌, refl, sym, ap, ap₂, ◌∙◌, arith, ℕ, ◌+◌, ◌<◌, ◌≤◌, nat_le, Bool, true, false, cond, not, ◌&&◌, ◌||◌, List, [], ◌∷◌, ◌++◌, append-nil, length, take, Option, Some, None, is_some, is_none, unwrap_or, option_map, bytes_eq, position}
use denote.Ref.{Bor}
use Rattle.cgl_num.specs.NumberText.{Word, is_number, limit, number}
use Rattle.cgl_decode.specs.declared.kinds.BoundKind.{BoundKind}
use Rattle.cgl_decode.specs.declared.kinds.BoundKind.TheVariants.{Lo, Li, Up, Ui, Fx, Fr, Mi, Pl, Bv}
use Rattle.cgl_decode.specs.Sections.{Pair, pairs_of, needs_value}
use Rattle.cgl_text.specs.Text.{is_one_of}
use Rattle.cgl_text.specs.Conditions.{Condition, first_kind}
use Rattle.cgl_text.proofs.NameLaws.{is_found}
use Rattle.cgl_decode.specs.Faults.{Limits, each_pair, names_row, takes, is_value_of}
use Rattle.cgl_text.specs.Seen.{words}
use Rattle.cgl_mps.specs.Seen.{word_at}
use Rattle.cgl_mps.specs.Tables.{is_marked_row}
use Rattle.cgl_mps.specs.State.{State, entry_conditions, has_entry, is_current, placed_conditions}

-- the first condition

found_first : (b : Bool) (kind : ℕ) (rest : Option ℕ) (k : ℕ) (more : Option ℕ) → cond b (Some kind) rest ≡ Some k → (rest ≡ Some k → more ≡ Some k) → cond b (Some kind) more ≡ Some k
found_first true kind rest k more e go = e
found_first false kind rest k more e go = go e

pub first_kind-some : (these others : List Condition) (k : ℕ) → first_kind these ≡ Some k → first_kind (these ++ others) ≡ Some k
first_kind-some [] others k e = cc
first_kind-some (c ∷ these) others k e = found_first c.0 c.1 (first_kind these) k (first_kind (these ++ others)) e (first_kind-some these others k)

none_first : (b : Bool) (kind : ℕ) (rest more later : Option ℕ) → cond b (Some kind) rest ≡ None → (rest ≡ None → more ≡ later) → cond b (Some kind) more ≡ later
none_first true kind rest more later e go = cc
none_first false kind rest more later e go = go e

pub first_kind-none : (these others : List Condition) → first_kind these ≡ None → first_kind (these ++ others) ≡ first_kind others
first_kind-none [] others e = refl
first_kind-none (c ∷ these) others e = none_first c.0 c.1 (first_kind these) (first_kind (these ++ others)) (first_kind others) e (first_kind-none these others)

-- two pairs at most

abbrev Judge : Type 0
Judge = List Pair → Pair → List Condition

abbrev Fields : Type 0
Fields = List (Bor (List ℕ))

-- what a judgement of two words says of the same two words elsewhere
pub judged : (judge : Judge) (earlier : List Pair) (row value row' value' : Word) (kind : Option ℕ) → kind ≡ first_kind (judge earlier (row', value')) → row' ≡ row → value' ≡ value
    → first_kind (judge earlier (row, value)) ≡ kind
judged judge earlier row value row' value' kind is rows values = sym (is ∙ ap₂ (λ a b. first_kind (judge earlier (a, b))) rows values)

pub no_pair : (judge : Judge) (fields : Fields) → length fields < 2 → first_kind (each_pair judge [] (pairs_of (words fields))) ≡ None
no_pair judge [] lt = refl
no_pair judge (a ∷ []) lt = refl
no_pair judge (a ∷ (b ∷ fields)) lt = absurd (omega arith)

pub first_pair : (judge : Judge) (fields : Fields) (k : ℕ) → 2 ≤ length fields → first_kind (judge [] (word_at 0 fields, word_at 1 fields)) ≡ Some k
    → first_kind (each_pair judge [] (pairs_of (words fields))) ≡ Some k
first_pair judge [] k le e = absurd (omega arith)
first_pair judge (a ∷ []) k le e = absurd (omega arith)
first_pair judge (a ∷ (b ∷ fields)) k le e = first_kind-some (judge [] (a.now, b.now)) (each_pair judge ((a.now, b.now) ∷ []) (pairs_of (words fields))) k e

pub one_pair : (judge : Judge) (fields : Fields) → 2 ≤ length fields → length fields < 4 → first_kind (judge [] (word_at 0 fields, word_at 1 fields)) ≡ None
    → first_kind (each_pair judge [] (pairs_of (words fields))) ≡ None
one_pair judge [] le lt e = absurd (omega arith)
one_pair judge (a ∷ []) le lt e = absurd (omega arith)
one_pair judge (a ∷ (b ∷ [])) le lt e = ap first_kind (append-nil (judge [] (a.now, b.now))) ∙ e
one_pair judge (a ∷ (b ∷ (c ∷ []))) le lt e = ap first_kind (append-nil (judge [] (a.now, b.now))) ∙ e
one_pair judge (a ∷ (b ∷ (c ∷ (d ∷ fields)))) le lt e = absurd (omega arith)

pub second_pair : (judge : Judge) (fields : Fields) → 4 ≤ length fields → length fields ≤ 5 → first_kind (judge [] (word_at 0 fields, word_at 1 fields)) ≡ None
    → first_kind (each_pair judge [] (pairs_of (words fields))) ≡ first_kind (judge (pairs_of (words (take 2 fields))) (word_at 2 fields, word_at 3 fields))
second_pair judge [] le lt e = absurd (omega arith)
second_pair judge (a ∷ []) le lt e = absurd (omega arith)
second_pair judge (a ∷ (b ∷ [])) le lt e = absurd (omega arith)
second_pair judge (a ∷ (b ∷ (c ∷ []))) le lt e = absurd (omega arith)
second_pair judge (a ∷ (b ∷ (c ∷ (d ∷ [])))) le lt e =
    first_kind-none (judge [] (a.now, b.now)) (judge ((a.now, b.now) ∷ []) (c.now, d.now) ++ []) e ∙ ap first_kind (append-nil (judge ((a.now, b.now) ∷ []) (c.now, d.now)))
second_pair judge (a ∷ (b ∷ (c ∷ (d ∷ (f ∷ []))))) le lt e =
    first_kind-none (judge [] (a.now, b.now)) (judge ((a.now, b.now) ∷ []) (c.now, d.now) ++ []) e ∙ ap first_kind (append-nil (judge ((a.now, b.now) ∷ []) (c.now, d.now)))
second_pair judge (a ∷ (b ∷ (c ∷ (d ∷ (f ∷ (g ∷ fields)))))) le lt e = absurd (omega arith)

-- a pair of COLUMNS, by the place of its row

pub unknown_row : (limits : Limits) (state : State) (name : Word) (earlier : List Pair) (pair : Pair) → position (bytes_eq pair.0) state.rows ≡ None
    → Some 5 ≡ first_kind (entry_conditions limits state name earlier pair)
unknown_row limits state name earlier pair none =
    let unknown : is_one_of state.rows pair.0 ≡ false = sym (is_found (bytes_eq pair.0) state.rows) ∙ ap is_some none in
    sym (ap (λ b. cond (not b) (Some 5)
    (first_kind ((has_entry state name pair.0 || names_row earlier pair.0, 7) ∷ (is_none (number pair.1), 4) ∷ (nat_le limits.entries (state.columns.count + length earlier), 12) ∷ []))) unknown)

pub known_row : (limits : Limits) (state : State) (name : Word) (earlier : List Pair) (place : ℕ) (pair : Pair) → position (bytes_eq pair.0) state.rows ≡ Some place
    → first_kind (placed_conditions limits state name earlier place pair) ≡ first_kind (entry_conditions limits state name earlier pair)
known_row limits state name earlier place pair at =
    let known : is_one_of state.rows pair.0 ≡ true = sym (is_found (bytes_eq pair.0) state.rows) ∙ ap is_some at in
    sym (ap (λ b. cond (not b) (Some 5)
    (first_kind ((has_entry state name pair.0 || names_row earlier pair.0, 7) ∷ (is_none (number pair.1), 4) ∷ (nat_le limits.entries (state.columns.count + length earlier), 12) ∷ []))) known
    ∙ ap (λ found. first_kind (((is_current state.columns name && unwrap_or (option_map (is_marked_row state.columns) found) false) || names_row earlier pair.0, 7) ∷ (is_none (number pair.1), 4) ∷ (nat_le limits.entries (state.columns.count + length earlier), 12) ∷ [])) at)

-- values of bounds

pub value_cases : (kind : BoundKind) (value : Option Word) → is_value_of kind value ≡ cond (needs_value kind) (unwrap_or (option_map (takes kind) (limit (unwrap_or value []))) false) (unwrap_or (option_map is_number value) true)
value_cases Lo value = refl
value_cases Li value = refl
value_cases Up value = refl
value_cases Ui value = refl
value_cases Fx value = refl
value_cases Fr value = refl
value_cases Mi value = refl
value_cases Pl value = refl
value_cases Bv value = refl

pub value_taken : (kind : BoundKind) (value : Option Word) → needs_value kind ≡ true → is_value_of kind value ≡ unwrap_or (option_map (takes kind) (limit (unwrap_or value []))) false
value_taken kind value e = value_cases kind value ∙ ap (λ b. cond b (unwrap_or (option_map (takes kind) (limit (unwrap_or value []))) false) (unwrap_or (option_map is_number value) true)) e

pub value_spare : (kind : BoundKind) (value : Option Word) → needs_value kind ≡ false → is_value_of kind value ≡ unwrap_or (option_map is_number value) true
value_spare kind value e = value_cases kind value ∙ ap (λ b. cond b (unwrap_or (option_map (takes kind) (limit (unwrap_or value []))) false) (unwrap_or (option_map is_number value) true)) e

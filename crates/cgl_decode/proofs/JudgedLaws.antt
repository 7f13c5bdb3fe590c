-- Records without a fault, each after those before it: what holds of the first ones, and stays with one more, holds of all.
use Rattle.std.proofs.Common.{◌≡◌, refl, sym, ap, ◌∙◌, inl, inr, ◌⊎◌, ℕ, ◌+◌, ◌==◌, Bool, true, false, cond, not, ◌&&◌, List, [], ◌∷◌, ◌++◌, append-nil, Option, Some, None, unwrap_or, slice_get, subst}
use Rattle.std.proofs.lemmas.Bool.{eqb-true, and_parts}
use Rattle.std.specs.List.{AllByRecursion, list_all, onto_first}
use Rattle.cgl_text.specs.Text.{lines_of}
use Rattle.cgl_model.specs.declared.mip.Model.{Model}
use Rattle.cgl_decode.specs.declared.kinds.Section.{Section}
use Rattle.cgl_decode.specs.declared.kinds.Section.TheVariants.{Start, Name, Sense, Rows, Columns, Rhs, Ranges, Bounds, End, Unsupported, Unknown}
use Rattle.cgl_decode.specs.Records.{Record, record_of, section_after, is_end, is_kept, kept, place, same_section}
use Rattle.cgl_text.specs.Conditions.{Condition, first_kind}
use Rattle.cgl_decode.specs.Faults.{Limits, line_conditions, conditions, header_conditions, data_conditions, fault_after}
use Rattle.cgl_decode.specs.Models.{model_of}
use Rattle.cgl_decode.specs.Decode.{Outcome, Deck, decode_within}
use Rattle.cgl_decode.specs.Reading.{turn, read_from}
use Rattle.cgl_decode.proofs.ReadingLaws.{reads_alike}

-- conditions of which none holds

none_case : (b : Bool) (kind : ℕ) (others : Option ℕ) → cond b (Some kind) others ≡ None → (b ≡ false) × (others ≡ None)
none_case true kind others none = cc
none_case false kind others none = (refl, none)

first_none : (c : Condition) (cs : List Condition) → first_kind (c ∷ cs) ≡ None → (c.0 ≡ false) × (first_kind cs ≡ None)
first_none c cs none = none_case c.0 c.1 (first_kind cs) none

pub later_none : (cs others : List Condition) → first_kind (cs ++ others) ≡ None → first_kind others ≡ None
later_none [] others none = none
later_none (c ∷ cs) others none = later_none cs others (first_none c (cs ++ others) none).1

-- none of these holds
abbrev pub NoneHolds : List Condition → Type 0
NoneHolds [] = Unit {0}
NoneHolds (c ∷ cs) = (c.0 ≡ false) × NoneHolds cs

pub none_hold : (cs : List Condition) → first_kind cs ≡ None → NoneHolds cs
none_hold [] none = tt
none_hold (c ∷ cs) none = let both = first_none c cs none in (both.0, none_hold cs both.1)

pub earlier_hold : (cs others : List Condition) → NoneHolds (cs ++ others) → NoneHolds cs
earlier_hold [] others none = tt
earlier_hold (c ∷ cs) others none = (none.0, earlier_hold cs others none.1)

pub later_hold : (cs others : List Condition) → NoneHolds (cs ++ others) → NoneHolds others
later_hold [] others none = none
later_hold (c ∷ cs) others none = later_hold cs others none.1

-- sections

abbrev section_at : ℕ → Section
section_at n = unwrap_or (slice_get (Start ∷ Name ∷ Sense ∷ Rows ∷ Columns ∷ Rhs ∷ Ranges ∷ Bounds ∷ End ∷ Unsupported ∷ Unknown ∷ []) n) Start

section_at-place : (s : Section) → section_at (place s) ≡ s
section_at-place Start = refl
section_at-place Name = refl
section_at-place Sense = refl
section_at-place Rows = refl
section_at-place Columns = refl
section_at-place Rhs = refl
section_at-place Ranges = refl
section_at-place Bounds = refl
section_at-place End = refl
section_at-place Unsupported = refl
section_at-place Unknown = refl

pub same_sections : (a b : Section) → same_section a b ≡ true → a ≡ b
same_sections a b same = sym (section_at-place a) ∙ ap section_at (eqb-true (place a) (place b) same) ∙ section_at-place b

-- what is judged

pub judged : (limits : Limits) (bytes : List ℕ) (before : List Record) (r : Record) → is_kept r ≡ true → fault_after limits bytes before r ≡ None
    → first_kind (cond r.header (header_conditions before r) (data_conditions r.section limits before r)) ≡ None
unfolding fault_after
judged limits bytes before r kept none =
    let own = cond r.header (header_conditions before r) (data_conditions r.section limits before r) in
    ap (λ b. first_kind (cond b own [])) (sym kept) ∙ later_none (line_conditions limits bytes r) (conditions limits before r) none

pub not_true : (a : Bool) → not a ≡ true → a ≡ false
not_true true e = cc
not_true false e = refl

-- a data line of the section
pub judged_data : (section : Section) (limits : Limits) (bytes : List ℕ) (before : List Record) (r : Record) → is_kept r ≡ true → fault_after limits bytes before r ≡ None
    → (not r.header && same_section section r.section) ≡ true
    → NoneHolds (data_conditions section limits before r)
judged_data section limits bytes before r kept none stands =
    let parts = and_parts (not r.header) (same_section section r.section) stands in
    none_hold (data_conditions section limits before r)
    (ap (λ s. first_kind (data_conditions s limits before r)) (same_sections section r.section parts.1)
    ∙ ap (λ h. first_kind (cond h (header_conditions before r) (data_conditions r.section limits before r))) (sym (not_true r.header parts.0))
    ∙ judged limits bytes before r kept none)

-- a header
pub judged_header : (limits : Limits) (bytes : List ℕ) (before : List Record) (r : Record) → is_kept r ≡ true → fault_after limits bytes before r ≡ None
    → r.header ≡ true
    → NoneHolds (header_conditions before r)
judged_header limits bytes before r kept none header =
    none_hold (header_conditions before r)
    (ap (λ h. first_kind (cond h (header_conditions before r) (data_conditions r.section limits before r))) (sym header) ∙ judged limits bytes before r kept none)

-- lines have no LF

abbrev pub IsLine : List ℕ → Type 0
IsLine line = list_all (λ b. not (b == 10)) line ≡ true

onto_line : (b : ℕ) (lines : List (List ℕ)) → (b == 10) ≡ false → AllByRecursion IsLine lines → AllByRecursion IsLine (onto_first b lines)
onto_line b [] other all = (ap (λ c. not c && true) other, tt)
onto_line b (line ∷ lines) other all = (ap (λ c. not c && list_all (λ b. not (b == 10)) line) other ∙ all.0, all.1)

line_case : (b : ℕ) (lines : List (List ℕ)) (c : Bool) → (b == 10) ≡ c → AllByRecursion IsLine lines → AllByRecursion IsLine (cond c ([] ∷ lines) (onto_first b lines))
line_case b lines true is all = (refl, all)
line_case b lines false is all = onto_line b lines is all

pub lines_are : (bytes : List ℕ) → AllByRecursion IsLine (lines_of bytes)
lines_are [] = tt
lines_are (b ∷ bytes) = line_case b (lines_of bytes) (b == 10) refl (lines_are bytes)

-- what stays with one more record

turn_case : (o : Option ℕ) (n : ℕ) (ends : Bool) (next : List Record) (later : Outcome) (m : Model) → turn o n ends next later ≡ Deck m → (o ≡ None) × ((Deck (model_of next) ≡ Deck m) ⊎ (later ≡ Deck m))
turn_case (Some kind) n ends next later m is = cc
turn_case None n true next later m is = (refl, inl is)
turn_case None n false next later m is = (refl, inr is)

models_equal : (a b : Model) → Deck a ≡ Deck b → a ≡ b
models_equal a b same = cc

abbrev pub Stays : (List Record → Type 0) → Limits → List ℕ → Type 0
Stays Holds limits bytes =
    (before : List Record) (n : ℕ) (section : Section) (line : List ℕ)
    → IsLine line
    → is_kept (record_of n section line) ≡ true
    → fault_after limits bytes before (record_of n section line) ≡ None
    → Holds before
    → Holds (before ++ record_of n section line ∷ [])

kept_case : (Holds : List Record → Type 0) (before : List Record) (r : Record) (b : Bool) → is_kept r ≡ b → (is_kept r ≡ true → Holds (before ++ r ∷ [])) → Holds before → Holds (before ++ cond b (r ∷ []) [])
kept_case Holds before r true is next so_far = next is
kept_case Holds before r false is next so_far = subst Holds (sym (append-nil before)) so_far

abbrev pub Found : (List Record → Type 0) → Model → Type 0
Found Holds m = (records : List Record) × (m ≡ model_of records) × Holds records

read_keeps : (Holds : List Record → Type 0) (limits : Limits) (bytes : List ℕ) → Stays Holds limits bytes
    → (m : Model) (lines : List (List ℕ)) (n : ℕ) (section : Section) (before : List Record)
    → AllByRecursion IsLine lines → Holds before → read_from limits bytes n section before lines ≡ Deck m → Found Holds m
read_keeps Holds limits bytes stays m [] n section before all so_far is = cc
read_keeps Holds limits bytes stays m (line ∷ lines) n section before all so_far is =
    let s = section_after section line in
    let r = record_of n s line in
    let next = before ++ kept (r ∷ []) in
    let both = turn_case (fault_after limits bytes before r) n (is_end r) next (read_from limits bytes (n + 1) s next lines) m is in
    let now : Holds next = kept_case Holds before r (is_kept r) refl (λ keeps. stays before n s line all.0 keeps both.0 so_far) so_far in
    elim both.1 [
      | inl same ↦ (next, sym (models_equal (model_of next) m same), now)
      | inr later ↦ read_keeps Holds limits bytes stays m lines (n + 1) s next all.1 now later
    ]

-- a fact that stays with each record without a fault holds of the records that a deck's model comes from
pub deck_keeps : (Holds : List Record → Type 0) (limits : Limits) (bytes : List ℕ) → Stays Holds limits bytes → Holds [] → (m : Model) → decode_within limits bytes ≡ Deck m → Found Holds m
deck_keeps Holds limits bytes stays none m is =
    read_keeps Holds limits bytes stays m (lines_of bytes) 1 Start [] (lines_are bytes) none (sym (reads_alike limits bytes) ∙ is)

-- A deck, line by line.
use Rattle.std.proofs.Common.{◌≡◌, refl, sym, ap, ap₂, ◌∙◌, subst, ◌⊎◌, inl, inr, ℕ, ◌+◌, ◌<◌, nat_lt, arith, Bool, true, false, cond, List, [], ◌∷◌, ◌++◌, length, Option, Some, None, Result, Ok, Err}
use Rattle.std.proofs.lemmas.Bool.Decides.{nat_tests}
use Rattle.cgl_text.specs.Conditions.{first_kind}
use Rattle.cgl_text.specs.Text.{is_over, lines_of, most_bytes}
use Rattle.cgl_model.specs.declared.mip.Model.{Model}
use Rattle.cgl_decode.specs.declared.kinds.Section.{Section}
use Rattle.cgl_decode.specs.declared.kinds.Section.TheVariants.{Start, End as Endata}
use Rattle.cgl_decode.specs.Records.{Record, record_of, section_after, same_section, kept}
use Rattle.cgl_decode.specs.Faults.{conditions, fault_after}
use Rattle.cgl_decode.specs.Models.{model_of}
use Rattle.cgl_decode.specs.Decode.{deck_limits, decode}
use Rattle.cgl_decode.specs.DeckResult.{result_of, deck_result}
use Rattle.cgl_decode.specs.Reading.{read_from, turn}
use Rattle.cgl_decode.proofs.ReadingLaws.{reads_alike}
use Rattle.cgl_decode.proofs.DeckResultLaws.{result_is, results_are_models}
use Rattle.cgl_model.specs.Valid.{IsValid}
use Rattle.cgl_model.specs.HasDecimals.{HasDecimals}
use Rattle.cgl_outside.specs.Shelf.{Held}
use Rattle.cgl_outside.specs.Line.{written}
use Rattle.cgl_outside.specs.Means.{Means, MeansFault}
use Rattle.cgl_outside.specs.Reading.{Reading}
use Rattle.cgl_outside.specs.declared.line_reader.LineStep.{LineStep}
use Rattle.cgl_outside.specs.declared.line_reader.LineStep.TheVariants.{Line, TooLong, Over, End}
use Rattle.cgl_outside.specs.declared.errors.FetchError.{FetchError}
use Rattle.cgl_outside.specs.declared.errors.ReadError.{ReadError}
use Rattle.cgl_outside.specs.declared.errors.ReadError.TheVariants.{Fault, Memory}
use Rattle.cgl_mps.specs.State.{State, Stands, IsBad, IsTaken, line_record, next_section}
use Rattle.cgl_mps.specs.State.{Means as StateMeans}
use Rattle.cgl_outside.proofs.SoFarLaws.{IsSoFar, IsStep, so_far_line, means_line, means_long, means_over, means_end}

-- what the lines from a number on come to, after the records before them
pub read_on : Section → List Record → List ℕ → ℕ → List (List ℕ) → Result Model (ℕ × ℕ)
read_on section before text n lines = result_of (read_from deck_limits text n section before lines)

pub read_whole : (text : List ℕ) → deck_result text ≡ read_on Start [] text 1 (lines_of text)
unfolding read_on
read_whole text = result_is text (read_from deck_limits text 1 Start [] (lines_of text)) (reads_alike deck_limits text)

-- the kind of fault of a record that ends within the limit, and in which it is not

abbrev pub kind_within : List Record → Record → Option ℕ
kind_within before r = first_kind ((nat_lt 4096 r.bytes, 11) ∷ conditions deck_limits before r)

within_fault : (text : List ℕ) (before : List Record) (r : Record) → is_over most_bytes text r.line ≡ false → fault_after deck_limits text before r ≡ kind_within before r
unfolding fault_after
within_fault text before r within = ap (λ b. cond b (Some 12) (kind_within before r)) within

over_fault : (text : List ℕ) (before : List Record) (r : Record) → is_over most_bytes text r.line ≡ true → fault_after deck_limits text before r ≡ Some 12
unfolding fault_after
over_fault text before r over = ap (λ b. cond b (Some 12) (kind_within before r)) over

-- one line

long_first : (size : ℕ) → 4096 < size → (rest : Option ℕ) → cond (nat_lt 4096 size) (Some 11) rest ≡ Some 11
long_first size long rest = (let is : nat_lt 4096 size ≡ true = grind (arith, nat_tests) in ap (λ b. cond b (Some 11) rest) is)

turn_is : (text : List ℕ) (n : ℕ) (section : Section) (before : List Record) (line : List ℕ) (later : List (List ℕ)) (fault : Option ℕ) (ends : Bool)
    → fault_after deck_limits text before (record_of n (section_after section line) line) ≡ fault → same_section (section_after section line) Endata ≡ ends
    → read_on section before text n (line ∷ later)
    ≡ result_of (turn fault n ends (before ++ kept (record_of n (section_after section line) line ∷ [])) (read_from deck_limits text (n + 1) (section_after section line) (before ++ kept (record_of n (section_after section line) line ∷ [])) later))
unfolding read_on
turn_is text n section before line later fault ends is last =
    let r = record_of n (section_after section line) line in
    ap₂ (λ f e. result_of (turn f n e (before ++ kept (r ∷ [])) (read_from deck_limits text (n + 1) (section_after section line) (before ++ kept (r ∷ [])) later))) is last

faulty : (text : List ℕ) (n : ℕ) (section : Section) (before : List Record) (line : List ℕ) (later : List (List ℕ)) (kind : ℕ)
    → fault_after deck_limits text before (record_of n (section_after section line) line) ≡ Some kind → read_on section before text n (line ∷ later) ≡ Err (n, kind)
faulty text n section before line later kind is = turn_is text n section before line later (Some kind) (same_section (section_after section line) Endata) is refl

pub read_fault : (text : List ℕ) (n : ℕ) (section : Section) (before : List Record) (line : List ℕ) (later : List (List ℕ)) (kind : ℕ)
    → kind_within before (record_of n (section_after section line) line) ≡ Some kind → is_over most_bytes text n ≡ false → read_on section before text n (line ∷ later) ≡ Err (n, kind)
read_fault text n section before line later kind is within =
    faulty text n section before line later kind (within_fault text before (record_of n (section_after section line) line) within ∙ is)

pub read_long : (text : List ℕ) (n : ℕ) (section : Section) (before : List Record) (line : List ℕ) (later : List (List ℕ))
    → is_over most_bytes text n ≡ false → 4096 < length line → read_on section before text n (line ∷ later) ≡ Err (n, 11)
read_long text n section before line later within long =
    read_fault text n section before line later 11 (long_first (length line) long (first_kind (conditions deck_limits before (record_of n (section_after section line) line)))) within

pub read_over : (text : List ℕ) (n : ℕ) (section : Section) (before : List Record) (line : List ℕ) (later : List (List ℕ))
    → is_over most_bytes text n ≡ true → read_on section before text n (line ∷ later) ≡ Err (n, 12)
read_over text n section before line later over = faulty text n section before line later 12 (over_fault text before (record_of n (section_after section line) line) over)

pub read_model : (text : List ℕ) (n : ℕ) (section : Section) (before : List Record) (line : List ℕ) (later : List (List ℕ))
    → kind_within before (record_of n (section_after section line) line) ≡ None → same_section (section_after section line) Endata ≡ true → is_over most_bytes text n ≡ false
    → read_on section before text n (line ∷ later) ≡ Ok (model_of (before ++ kept (record_of n (section_after section line) line ∷ [])))
read_model text n section before line later none ends within =
    turn_is text n section before line later None true (within_fault text before (record_of n (section_after section line) line) within ∙ none) ends

pub read_line : (text : List ℕ) (n : ℕ) (section : Section) (before : List Record) (line : List ℕ) (later : List (List ℕ))
    → kind_within before (record_of n (section_after section line) line) ≡ None → same_section (section_after section line) Endata ≡ false → is_over most_bytes text n ≡ false
    → read_on section before text n (line ∷ later) ≡ read_on (section_after section line) (before ++ kept (record_of n (section_after section line) line ∷ [])) text (n + 1) later
unfolding read_on
read_line text n section before line later none ends within =
    turn_is text n section before line later None false (within_fault text before (record_of n (section_after section line) line) within ∙ none) ends

-- one step of the reader

module _ (held : Held) (name : List ℕ) (section : Section) (before : List Record) (old new : Reading) (text : List ℕ)
    (so_far : IsSoFar held name 4096 deck_result (read_on section before) old text) (result : Result LineStep FetchError) (step : IsStep held old new result) where
  pub long_line : (found : LineStep) → result ≡ Ok found → found ≡ TooLong → (n : ℕ) → n ≡ new.number → Means held name deck_result (Err (n, 11))
  long_line found is long n at =
      means_long held name 4096 deck_result (read_on section before) old new text so_far (subst (IsStep held old new) (is ∙ ap Ok long) step) (Err (n, 11))
      (λ whole line later within longer. read_long whole new.number section before line later within longer ∙ ap (λ k. Err (k, 11)) (sym at))

  pub over_line : (found : LineStep) → result ≡ Ok found → found ≡ Over → (n : ℕ) → n ≡ new.number → Means held name deck_result (Err (n, 12))
  over_line found is over n at =
      means_over held name 4096 deck_result (read_on section before) old new text so_far (subst (IsStep held old new) (is ∙ ap Ok over) step) (Err (n, 12))
      (λ whole line later past. read_over whole new.number section before line later past ∙ ap (λ k. Err (k, 12)) (sym at))

  pub no_line : (found : LineStep) → result ≡ Ok found → found ≡ End → (n : ℕ) → n ≡ new.number → Means held name deck_result (Err (n + 1, 10))
  unfolding read_on
  no_line found is end n at =
      means_end held name 4096 deck_result (read_on section before) old new text so_far (subst (IsStep held old new) (is ∙ ap Ok end) step) (Err (n + 1, 10))
      (λ whole. ap (λ k. Err (k + 1, 10)) (sym at))

  -- the line, as the code has it
  module _ (found : LineStep) (is : result ≡ Ok found) (is_line : found ≡ Line) (n : ℕ) (line : List ℕ) (at : n ≡ new.number) (same : line ≡ new.line) where
    line_step : IsStep held old new (Ok Line)
    line_step = subst (IsStep held old new) (is ∙ ap Ok is_line) step

    abbrev here : Record
    here = line_record n section line

    within_here : (kind : Option ℕ) → kind_within before here ≡ kind → kind_within before (record_of new.number (section_after section new.line) new.line) ≡ kind
    unfolding line_record
    within_here kind judged = ap₂ (λ k l. kind_within before (record_of k (section_after section l) l)) (sym at) (sym same) ∙ judged

    ends_here : (ends : Bool) → same_section (next_section section line) Endata ≡ ends → same_section (section_after section new.line) Endata ≡ ends
    unfolding next_section
    ends_here ends e = ap (λ l. same_section (section_after section l) Endata) (sym same) ∙ e

    kept_here : before ++ kept (record_of new.number (section_after section new.line) new.line ∷ []) ≡ before ++ kept (here ∷ [])
    unfolding line_record
    kept_here = ap₂ (λ k l. before ++ kept (record_of k (section_after section l) l ∷ [])) (sym at) (sym same)

    section_here : section_after section new.line ≡ next_section section line
    unfolding next_section
    section_here = ap (section_after section) (sym same)

    faulty_line : (kind : ℕ) → kind_within before here ≡ Some kind → Means held name deck_result (Err (n, kind))
    faulty_line kind judged =
        means_line held name 4096 deck_result (read_on section before) old new text so_far line_step (Err (n, kind))
        (λ whole later within. read_fault whole new.number section before new.line later kind (within_here (Some kind) judged) within ∙ ap (λ k. Err (k, kind)) (sym at))

    -- the line's fault, or that memory was refused
    pub bad_line : (e : ReadError) (state : State) → Stands before state → (e ≡ Memory) ⊎ ((kind : ℕ) × (e ≡ Fault n kind) × IsBad here state kind) → MeansFault held name deck_result e
    bad_line e state stands (inl memory) = subst (MeansFault held name deck_result) (sym memory) tt
    bad_line e state stands (inr told) = subst (MeansFault held name deck_result) (sym told.1) (faulty_line told.0 (told.2.is before stands))

    -- the model, at the end of the deck
    pub last_line : (state next : State) (s : Section) (m : Model) → Stands before state → IsTaken here state next → s ≡ next_section section line → same_section s Endata ≡ true → StateMeans next m
        → Means held name deck_result (Ok m)
    last_line state next s m stands taken at_section ends made =
        means_line held name 4096 deck_result (read_on section before) old new text so_far line_step (Ok m)
        (λ whole later within.
        read_model whole new.number section before new.line later (within_here None (taken.sound before stands)) (ends_here true (ap (λ t. same_section t Endata) (sym at_section) ∙ ends)) within
        ∙ ap (λ l. Ok (model_of l)) kept_here
        ∙ ap Ok (sym (made.is (before ++ kept (here ∷ [])) (taken.stands before stands))))

    -- one line further
    pub good_line : (state next : State) (s : Section) → Stands before state → IsTaken here state next → s ≡ next_section section line → same_section s Endata ≡ false
        → IsSoFar held name 4096 deck_result (read_on s (before ++ kept (here ∷ []))) new (text ++ written new.line new.has_lf)
    good_line state next s stands taken at_section goes_on =
        so_far_line held name 4096 deck_result (read_on section before) old new text so_far line_step (read_on s (before ++ kept (here ∷ [])))
        (λ whole later within.
        read_line whole new.number section before new.line later (within_here None (taken.sound before stands)) (ends_here false (ap (λ t. same_section t Endata) (sym at_section) ∙ goes_on)) within
        ∙ ap₂ (λ t l. read_on t l whole (new.number + 1) later) (section_here ∙ sym at_section) kept_here)

-- the model is within the limits
pub means_model : (held : Held) (name : List ℕ) (m : Model) → Means held name deck_result (Ok m) → IsValid m × HasDecimals m
means_model held name m means = results_are_models means.text m means.is

-- A point file, line by line.
use Rattle.std.proofs.Common.{◌≡◌, sym, ap, ◌∙◌, subst, ℕ, ◌+◌, ◌<◌, nat_lt, arith, true, false, cond, List, [], ◌∷◌, ◌++◌, length, Option, Some, None, Result, Ok, Err}
use Rattle.std.proofs.lemmas.Bool.Decides.{nat_tests}
use Rattle.cgl_text.specs.Conditions.{first_kind}
use Rattle.cgl_text.specs.Text.{is_over, lines_of, most_bytes}
use Rattle.cgl_model.specs.declared.mip.Model.{Model}
use Rattle.cgl_model.specs.Point.{Point}
use Rattle.cgl_outside.specs.Shelf.{Held}
use Rattle.cgl_outside.specs.Line.{written}
use Rattle.cgl_outside.specs.Means.{Means}
use Rattle.cgl_outside.specs.Reading.{Reading}
use Rattle.cgl_outside.specs.declared.line_reader.LineStep.{LineStep}
use Rattle.cgl_outside.specs.declared.line_reader.LineStep.TheVariants.{Line, TooLong, Over, End}
use Rattle.cgl_outside.specs.declared.errors.FetchError.{FetchError}
use Rattle.cgl_outside.proofs.SoFarLaws.{IsSoFar, IsStep, so_far_line, means_line, means_long, means_over, means_end}
use Rattle.cgl_where.specs.PointFile.{Record, record_of, kept, is_kept, value_conditions, fault_after, point_from, point_of}
use Rattle.cgl_where.specs.PointRead.{outcome_result, point_result}
use Rattle.cgl_where.specs.Carried.{kind_within}
use Rattle.cgl_where.specs.Reading.{turn, read_from}
use Rattle.cgl_where.proofs.ReadingLaws.{reads_alike}
use Rattle.cgl_where.proofs.FrontLaws.{fault_over}

-- what the lines from a number on come to, after the records before them
abbrev pub read_on : Model → List Record → List ℕ → ℕ → List (List ℕ) → Result Point (ℕ × ℕ)
read_on m before text n lines = outcome_result (read_from most_bytes text m n before lines)

pub read_whole : (m : Model) (text : List ℕ) → point_result m text ≡ read_on m [] text 1 (lines_of text)
unfolding point_result point_of
read_whole m text = ap outcome_result (reads_alike most_bytes text m)

-- one line

within_fault : (text : List ℕ) (m : Model) (before : List Record) (r : Record) → is_over most_bytes text r.line ≡ false → fault_after most_bytes text m before r ≡ kind_within m before r
unfolding fault_after
within_fault text m before r within = ap (λ b. cond b (Some 12) (kind_within m before r)) within

turn_is : (m : Model) (text : List ℕ) (n : ℕ) (before : List Record) (line : List ℕ) (later : List (List ℕ)) (fault : Option ℕ) → fault_after most_bytes text m before (record_of n line) ≡ fault
    → read_on m before text n (line ∷ later) ≡ outcome_result (turn fault n (read_from most_bytes text m (n + 1) (before ++ kept (record_of n line ∷ [])) later))
turn_is m text n before line later fault is =
    ap (λ f. outcome_result (turn f n (read_from most_bytes text m (n + 1) (before ++ kept (record_of n line ∷ [])) later))) is

read_faulty : (m : Model) (text : List ℕ) (n : ℕ) (before : List Record) (line : List ℕ) (later : List (List ℕ)) (kind : ℕ)
    → kind_within m before (record_of n line) ≡ Some kind → is_over most_bytes text n ≡ false → read_on m before text n (line ∷ later) ≡ Err (n, kind)
read_faulty m text n before line later kind is within = turn_is m text n before line later (Some kind) (within_fault text m before (record_of n line) within ∙ is)

long_first : (size : ℕ) → 4096 < size → (rest : Option ℕ) → cond (nat_lt 4096 size) (Some 11) rest ≡ Some 11
long_first size long rest = (let is : nat_lt 4096 size ≡ true = grind (arith, nat_tests) in ap (λ b. cond b (Some 11) rest) is)

read_long : (m : Model) (text : List ℕ) (n : ℕ) (before : List Record) (line : List ℕ) (later : List (List ℕ))
    → is_over most_bytes text n ≡ false → 4096 < length line → read_on m before text n (line ∷ later) ≡ Err (n, 11)
read_long m text n before line later within long =
    read_faulty m text n before line later 11 (long_first (length line) long (first_kind (cond (is_kept (record_of n line)) (value_conditions m before (record_of n line)) []))) within

read_over : (m : Model) (text : List ℕ) (n : ℕ) (before : List Record) (line : List ℕ) (later : List (List ℕ))
    → is_over most_bytes text n ≡ true → read_on m before text n (line ∷ later) ≡ Err (n, 12)
read_over m text n before line later over = turn_is m text n before line later (Some 12) (fault_over most_bytes text m before (record_of n line) over)

read_line : (m : Model) (text : List ℕ) (n : ℕ) (before : List Record) (line : List ℕ) (later : List (List ℕ))
    → kind_within m before (record_of n line) ≡ None → is_over most_bytes text n ≡ false
    → read_on m before text n (line ∷ later) ≡ read_on m (before ++ kept (record_of n line ∷ [])) text (n + 1) later
read_line m text n before line later none within = turn_is m text n before line later None (within_fault text m before (record_of n line) within ∙ none)

-- one step of the reader

module _ (held : Held) (name : List ℕ) (m : Model) (before : List Record) (old new : Reading) (text : List ℕ)
    (so_far : IsSoFar held name 4096 (point_result m) (read_on m before) old text) (result : Result LineStep FetchError) (step : IsStep held old new result)
    (found : LineStep) (is : result ≡ Ok found) where
  pub long_line : found ≡ TooLong → (n : ℕ) → n ≡ new.number → Means held name (point_result m) (Err (n, 11))
  long_line long n at =
      means_long held name 4096 (point_result m) (read_on m before) old new text so_far (subst (IsStep held old new) (is ∙ ap Ok long) step) (Err (n, 11))
      (λ whole line later within longer. read_long m whole new.number before line later within longer ∙ ap (λ k. Err (k, 11)) (sym at))

  pub over_line : found ≡ Over → (n : ℕ) → n ≡ new.number → Means held name (point_result m) (Err (n, 12))
  over_line over n at =
      means_over held name 4096 (point_result m) (read_on m before) old new text so_far (subst (IsStep held old new) (is ∙ ap Ok over) step) (Err (n, 12))
      (λ whole line later past. read_over m whole new.number before line later past ∙ ap (λ k. Err (k, 12)) (sym at))

  pub no_line : found ≡ End → (x : Point) → x ≡ point_from m before → Means held name (point_result m) (Ok x)
  no_line end x made =
      means_end held name 4096 (point_result m) (read_on m before) old new text so_far (subst (IsStep held old new) (is ∙ ap Ok end) step) (Ok x)
      (λ whole. ap Ok (sym made))

  -- the line, as the code has it
  module _ (is_line : found ≡ Line) (line : List ℕ) (same : line ≡ new.line) where
    line_step : IsStep held old new (Ok Line)
    line_step = subst (IsStep held old new) (is ∙ ap Ok is_line) step

    within_here : (kind : Option ℕ) → kind ≡ kind_within m before (record_of new.number line) → kind_within m before (record_of new.number new.line) ≡ kind
    within_here kind judged = ap (λ l. kind_within m before (record_of new.number l)) (sym same) ∙ sym judged

    pub bad_line : (kind : ℕ) (n : ℕ) → n ≡ new.number → Some kind ≡ kind_within m before (record_of new.number line) → Means held name (point_result m) (Err (n, kind))
    bad_line kind n at judged =
        means_line held name 4096 (point_result m) (read_on m before) old new text so_far line_step (Err (n, kind))
        (λ whole later within. read_faulty m whole new.number before new.line later kind (within_here (Some kind) judged) within ∙ ap (λ k. Err (k, kind)) (sym at))

    pub good_line : None ≡ kind_within m before (record_of new.number line)
        → IsSoFar held name 4096 (point_result m) (read_on m (before ++ kept (record_of new.number line ∷ []))) new (text ++ written new.line new.has_lf)
    good_line none =
        so_far_line held name 4096 (point_result m) (read_on m before) old new text so_far line_step (read_on m (before ++ kept (record_of new.number line ∷ [])))
        (λ whole later within.
        read_line m whole new.number before new.line later (within_here None none) within
        ∙ ap (λ l. read_on m (before ++ kept (record_of new.number l ∷ [])) whole (new.number + 1) later) (sym same))

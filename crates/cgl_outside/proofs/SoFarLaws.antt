-- A file that is read line by line: its text so far, and what the whole file means.
use Rattle.std.proofs.Common.{◌≡◌, ◌<◌, ◌≤◌, ◌+◌, ◌-◌, ℕ, Bool, true, false, List, [], ◌∷◌, ◌++◌, append-nil, append_assoc, cond, length, drop, replicate, Option, Some, None, IsSome, Result, Ok, refl, sym, ap, ap₂, ◌∙◌, subst, arith, length-append, length-drop}
use Rattle.std.specs.Prelude.{IfOk, OnOk}
use Rattle.std.proofs.lemmas.List.{drop-drop, drop_all, length-replicate, get_or-replicate}
use Rattle.cgl_text.specs.Text.{is_over, lines_of, most_bytes}
use Rattle.cgl_outside.specs.Shelf.{Held, file_of}
use Rattle.cgl_outside.specs.Front.{Follows}
use Rattle.cgl_outside.specs.Line.{HasNoEnd, IsFirst, written}
use Rattle.cgl_outside.specs.Means.{Means}
use Rattle.cgl_outside.specs.Reading.{IsEnded, IsOpen, Reading, StepShape, Steps, begun}
use Rattle.cgl_outside.specs.declared.line_reader.LineStep.{LineStep}
use Rattle.cgl_outside.specs.declared.line_reader.LineStep.TheVariants.{Line, TooLong, Over, End}
use Rattle.cgl_outside.specs.declared.errors.FetchError.{FetchError}
use Rattle.cgl_outside.proofs.NextLineLaws.{StandsNext, first_is_clean, lines_next, not_over, over_next, some_line, Counted}

-- nothing follows a line that no LF ended
abbrev pub Continues : Reading → List ℕ → Type 0
Continues reading rest = IsEnded reading → rest ≡ []

-- what lines from a number on come to, in this text
abbrev pub ReadOn : Type 0 → Type 0
ReadOn A = List ℕ → ℕ → List (List ℕ) → Result A (ℕ × ℕ)

-- the text up to the place of a reader that goes on: the file of the name goes on from it, where it is told, and each
-- text that does means what its further lines come to
pub record IsSoFar {A : Type 0} (held : Held) (name : List ℕ) (longest : ℕ) (meaning : List ℕ → Result A (ℕ × ℕ)) (on : ReadOn A) (reading : Reading) (text : List ℕ) : Type 0 where
  pub open_ : IsOpen reading.last
  pub name_is : reading.front.name ≡ name
  pub longest_is : reading.longest ≡ longest
  pub follows : Follows held reading.front
  pub found : IsSome reading.last → IsSome held → IsSome (file_of held name)
  pub size : length text ≡ reading.front.done
  pub within : reading.front.done ≤ most_bytes
  pub numbered : reading.number ≤ reading.front.done
  pub told : (file : List ℕ) → file_of held name ≡ Some file → (file ≡ text ++ drop reading.front.done file) × Continues reading (drop reading.front.done file)
  pub counted : (rest : List ℕ) → Continues reading rest → length (lines_of (text ++ rest)) ≡ reading.number + length (lines_of rest)
  pub means : (rest : List ℕ) → Continues reading rest → meaning (text ++ rest) ≡ on (text ++ rest) (reading.number + 1) (lines_of rest)

-- what the next step of a reader that goes on says
pub record IsStep (held : Held) (old new : Reading) (result : Result LineStep FetchError) : Type 0 where
  pub last : new.last ≡ Some result
  pub says : IfOk result (Steps held old new)
  pub follows : IsOpen new.last → Follows held new.front
  pub shape : StepShape old new result
  pub found : OnOk result (old.last ≡ None → IsSome held → IsSome (file_of held old.front.name))
  pub ended : IsEnded old → result ≡ Ok End
  pub name : new.front.name ≡ old.front.name
  pub longest : new.longest ≡ old.longest

-- from the clauses of the reader, whose shelf holds the same all along
pub step_of : (held held' after : Held) (old new : Reading) (result : Result LineStep FetchError) → held' ≡ held → after ≡ held' → IsOpen old.last
    → new.last ≡ Some result
    → (IsOpen old.last → IfOk result (Steps held' old new))
    → (IsOpen new.last → Follows after new.front)
    → (IsOpen old.last → StepShape old new result)
    → OnOk result (old.last ≡ None → IsSome held' → IsSome (file_of held' old.front.name))
    → (IsEnded old → result ≡ Ok End)
    → new.front.name ≡ old.front.name
    → new.longest ≡ old.longest
    → IsStep held old new result
step_of held held' after old new result same same' is_open last says follows shape found ended name longest = record {
  last = last;
  says = subst (λ h. IfOk result (Steps h old new)) same (says is_open);
  follows = λ goes_on. subst (λ h. Follows h new.front) (same' ∙ same) (follows goes_on);
  shape = shape is_open;
  found = subst (λ h. OnOk result (old.last ≡ None → IsSome h → IsSome (file_of h old.front.name))) same found;
  ended = ended;
  name = name;
  longest = longest;
}

-- the whole file

-- the file means what each text does that is as the file
means_by : {A : Type 0} (held : Held) (name : List ℕ) (meaning : List ℕ → Result A (ℕ × ℕ)) (answer : Result A (ℕ × ℕ)) (Is : List ℕ → Type 0) (found : Option (List ℕ))
    → file_of held name ≡ found → (IsSome held → IsSome found) → ((file : List ℕ) → found ≡ Some file → Is file)
    → (made : List ℕ) → Is made → ((text : List ℕ) → Is text → meaning text ≡ answer) → Means held name meaning answer
means_by held name meaning answer Is None at there told made is decides = record { text = made; shows = λ tells. (let some = there tells in cc); is = decides made is }
means_by held name meaning answer Is (Some file) at there told made is decides = record { text = file; shows = λ tells. at; is = decides file (told file refl) }

-- before the first line

pub so_far_begun : {A : Type 0} (held : Held) (name : List ℕ) (longest : ℕ) (meaning : List ℕ → Result A (ℕ × ℕ)) (on : ReadOn A)
    → ((text : List ℕ) → meaning text ≡ on text 1 (lines_of text)) → IsSoFar held name longest meaning on (begun name longest) []
so_far_begun held name longest meaning on reads = record {
  open_ = tt;
  name_is = refl;
  longest_is = refl;
  follows = λ file is. record { piece = refl; ended = λ e. cc };
  found = λ some. cc;
  size = refl;
  within = omega arith;
  numbered = omega arith;
  told = λ file is. (refl, λ ended. (let none = ended.line in cc));
  counted = λ rest continues. omega arith;
  means = λ rest continues. reads rest;
}

length_written : (line : List ℕ) (has_lf : Bool) → length (written line has_lf) ≡ length line + (cond has_lf 1 0)
length_written line true = length-append line (10 ∷ [])
length_written line false = length-append line []

nil_by : (l : List ℕ) → length l ≡ 0 → l ≡ []
nil_by [] none = refl
nil_by (b ∷ l) none = absurd (omega (arith, none))

-- a text that goes on from the place of a reader
record GoesOn (text : List ℕ) (reading : Reading) (whole : List ℕ) : Type 0 where
  rest : List ℕ
  is : whole ≡ text ++ rest
  continues : Continues reading rest

-- a text that goes on with a line that is too long, and ends within the limit
record HasLong (text : List ℕ) (longest n : ℕ) (whole : List ℕ) : Type 0 where
  rest : List ℕ
  line : List ℕ
  later : List (List ℕ)
  is : whole ≡ text ++ rest
  lines : lines_of rest ≡ line ∷ later
  longer : longest < length line
  within : is_over most_bytes whole n ≡ false

long_by : (text line : List ℕ) (has_lf : Bool) (rest : List ℕ) (longest number n : ℕ) → Counted text number → n ≡ number + 1
    → StandsNext line has_lf rest → length text + length (written line has_lf) ≤ most_bytes → longest < length line → HasLong text longest n (text ++ (written line has_lf ++ rest))
long_by text line has_lf rest longest number n counted at next within longer = record {
  rest = written line has_lf ++ rest;
  line = line;
  later = lines_of rest;
  is = refl;
  lines = lines_next line has_lf rest next;
  longer = longer;
  within = ap (is_over most_bytes (text ++ (written line has_lf ++ rest))) at ∙ not_over most_bytes text line has_lf rest number counted next within;
}

-- a text that goes on with a line in which the limit is passed
record HasOver (text : List ℕ) (n : ℕ) (whole : List ℕ) : Type 0 where
  rest : List ℕ
  line : List ℕ
  later : List (List ℕ)
  is : whole ≡ text ++ rest
  lines : lines_of rest ≡ line ∷ later
  over : is_over most_bytes whole n ≡ true

-- a list with a first
record First (lines : List (List ℕ)) : Type 0 where
  line : List ℕ
  later : List (List ℕ)
  is : lines ≡ line ∷ later

first_of_some : (lines : List (List ℕ)) → 0 < length lines → First lines
first_of_some [] some = absurd (omega (arith, some))
first_of_some (line ∷ later) some = record { line = line; later = later; is = refl }

over_by : (text rest : List ℕ) (number n : ℕ) → Counted text number → n ≡ number + 1 → length text ≤ most_bytes
    → most_bytes - length text < length rest → HasNoEnd rest (most_bytes - length text) → HasOver text n (text ++ rest)
over_by text rest number n counted at within there none =
    let first = first_of_some (lines_of rest) (some_line rest (omega (arith, there))) in
    record {
      rest = rest;
      line = first.line;
      later = first.later;
      is = refl;
      lines = first.is;
      over = ap (is_over most_bytes (text ++ rest)) at ∙ over_next most_bytes text rest number counted within there none;
    }

-- as many bytes that are no LF
blanks : ℕ → List ℕ
blanks n = replicate n 32

blanks_size : (n : ℕ) → length (blanks n) ≡ n
unfolding blanks
blanks_size n = length-replicate n 32

blanks_clean : (n k : ℕ) → k ≤ n → HasNoEnd (blanks n) k
unfolding blanks
blanks_clean n k le i below is = (let byte = get_or-replicate {A = ℕ} n i 32 0 (omega (arith, below, le)) in omega (arith, byte, is))

found_by : {F : Type 0} (last : Option (Result LineStep FetchError)) → (last ≡ None → F) → (IsSome last → F) → F
found_by None fresh later = fresh refl
found_by (Some result) fresh later = later refl

-- ---- one step more

module _ {A : Type 0} (held : Held) (name : List ℕ) (longest : ℕ) (meaning : List ℕ → Result A (ℕ × ℕ)) (on : ReadOn A) (old new : Reading) (text : List ℕ) (so_far : IsSoFar held name longest meaning on old text) where
  -- the file is there
  found_there : (IsSome held → old.last ≡ None → IsSome (file_of held old.front.name)) → IsSome held → IsSome (file_of held name)
  found_there first told =
      found_by old.last (λ fresh. subst (λ n. IsSome (file_of held n)) so_far.name_is (first told fresh)) (λ later. so_far.found later told)

  -- an LF ended the line before
  goes_on : (result : Result LineStep FetchError) → IsStep held old new result → (result ≡ Ok End → ⊥) → (rest : List ℕ) → Continues old rest
  goes_on result step other rest ended = absurd (other (step.ended ended))

  count_on : ((rest : List ℕ) → Continues old rest) → (rest : List ℕ) → length (lines_of (text ++ rest)) ≡ old.number + length (lines_of rest)
  count_on on_ rest = so_far.counted rest (on_ rest)

  file_at : (file : List ℕ) → file_of held name ≡ Some file → file_of held old.front.name ≡ Some file
  file_at file at = ap (file_of held) so_far.name_is ∙ at

  -- ---- a line

  module _ (step : IsStep held old new (Ok Line)) where
    not_ended : (rest : List ℕ) → Continues old rest
    not_ended = goes_on (Ok Line) step (λ is. cc)

    abbrev line_text : List ℕ
    line_text = written new.line new.has_lf

    number_is : new.number ≡ old.number + 1
    number_is = step.shape.2

    line_size : new.front.done ≡ old.front.done + length line_text
    line_size = omega (arith, step.shape.0.size, length_written new.line new.has_lf)

    next_is : (rest : List ℕ) → Continues new rest → StandsNext new.line new.has_lf rest
    next_is rest continues = record {
      clean = step.shape.0.clean;
      some = omega (arith, line_size, step.shape.0.moves);
      last = λ bare. continues (record { line = step.last; bare = bare });
    }

    grown : (rest : List ℕ) → (text ++ line_text) ++ rest ≡ text ++ (line_text ++ rest)
    grown rest = append_assoc text line_text rest

    not_over_in : (rest : List ℕ) → Continues new rest → is_over most_bytes ((text ++ line_text) ++ rest) new.number ≡ false
    not_over_in rest continues =
        ap₂ (is_over most_bytes) (grown rest) number_is
        ∙ not_over most_bytes text new.line new.has_lf rest old.number (count_on not_ended) (next_is rest continues) (omega (arith, so_far.size, line_size, step.shape.1))

    reads_line : (rest : List ℕ) → Continues new rest → meaning ((text ++ line_text) ++ rest) ≡ on ((text ++ line_text) ++ rest) new.number (new.line ∷ lines_of rest)
    reads_line rest continues =
        ap meaning (grown rest)
        ∙ so_far.means (line_text ++ rest) (not_ended (line_text ++ rest))
        ∙ ap₂ (λ w n. on w n (lines_of (line_text ++ rest))) (sym (grown rest)) (sym number_is)
        ∙ ap (on ((text ++ line_text) ++ rest) new.number) (lines_next new.line new.has_lf rest (next_is rest continues))

    -- the line's bytes are the file's next
    parts_in : (file : List ℕ) → file_of held name ≡ Some file → drop old.front.done file ≡ line_text ++ drop new.front.done file
    parts_in file at =
        let first = (step.says file (file_at file at)).0 in
        let forth : old.front.done + (new.front.done - old.front.done) ≡ new.front.done = omega (arith, line_size) in
        first.is ∙ ap (λ l. line_text ++ l) (drop-drop (new.front.done - old.front.done) old.front.done file ∙ ap (λ n. drop n file) forth)

    past_in : (file : List ℕ) → file_of held name ≡ Some file → Continues new (drop new.front.done file)
    past_in file at ended =
        let first = (step.says file (file_at file at)).0 in
        let rest : drop old.front.done file ≡ new.line = first.last ended.bare in
        let parts = parts_in file at in
        let a = length-append line_text (drop new.front.done file) in
        let b = length_written new.line new.has_lf in
        let none : length (drop new.front.done file) ≡ 0 = omega (arith, ap length rest, ap length parts, a, b) in
        nil_by (drop new.front.done file) none

    told_line : (file : List ℕ) → file_of held name ≡ Some file → (file ≡ (text ++ line_text) ++ drop new.front.done file) × Continues new (drop new.front.done file)
    told_line file at =
        ((so_far.told file at).0 ∙ ap (λ l. text ++ l) (parts_in file at) ∙ sym (grown (drop new.front.done file)), past_in file at)

    there : IsSome held → IsSome (file_of held name)
    there = found_there (λ told fresh. step.found fresh told)

    -- the reader goes on behind the line, with what the further lines come to
    pub so_far_line : (on' : ReadOn A)
        → ((whole : List ℕ) (later : List (List ℕ)) → is_over most_bytes whole new.number ≡ false → on whole new.number (new.line ∷ later) ≡ on' whole (new.number + 1) later)
        → IsSoFar held name longest meaning on' new (text ++ line_text)
    so_far_line on' goes = record {
      open_ = subst IsOpen (sym step.last) tt;
      name_is = step.name ∙ so_far.name_is;
      longest_is = step.longest ∙ so_far.longest_is;
      follows = step.follows (subst IsOpen (sym step.last) tt);
      found = λ some. there;
      size = omega (arith, length-append text line_text, so_far.size, line_size);
      within = step.shape.1;
      numbered = omega (arith, so_far.numbered, step.shape.0.moves, number_is);
      told = told_line;
      counted = λ rest continues.
          (let count : length (lines_of (text ++ (line_text ++ rest))) ≡ old.number + length (new.line ∷ lines_of rest) =
          count_on not_ended (line_text ++ rest) ∙ ap (λ l. old.number + length l) (lines_next new.line new.has_lf rest (next_is rest continues)) in
          ap (λ l. length (lines_of l)) (grown rest) ∙ count ∙ omega (arith, number_is));
      means = λ rest continues. reads_line rest continues ∙ goes ((text ++ line_text) ++ rest) (lines_of rest) (not_over_in rest continues);
    }

    -- the line decides
    pub means_line : (answer : Result A (ℕ × ℕ))
        → ((whole : List ℕ) (later : List (List ℕ)) → is_over most_bytes whole new.number ≡ false → on whole new.number (new.line ∷ later) ≡ answer)
        → Means held name meaning answer
    means_line answer decides =
        means_by held name meaning answer (GoesOn (text ++ line_text) new) (file_of held name) refl there
        (λ file at. record { rest = drop new.front.done file; is = (told_line file at).0; continues = (told_line file at).1 })
        (text ++ line_text) (record { rest = []; is = sym (append-nil (text ++ line_text)); continues = λ ended. refl })
        (λ whole goes.
        ap meaning goes.is
        ∙ reads_line goes.rest goes.continues
        ∙ decides ((text ++ line_text) ++ goes.rest) (lines_of goes.rest) (not_over_in goes.rest goes.continues))

  -- ---- a line that is too long

  module _ (step : IsStep held old new (Ok TooLong)) where
    goes_on_long : (rest : List ℕ) → Continues old rest
    goes_on_long = goes_on (Ok TooLong) step (λ is. cc)

    long_number : new.number ≡ old.number + 1
    long_number = step.shape.1

    long_of : (file rest line : List ℕ) (has_lf : Bool) → file ≡ text ++ rest → IsFirst old.front.done rest line has_lf new.front.done → longest < length line → HasLong text longest new.number file
    long_of file rest line has_lf whole first longer =
        let after = drop (new.front.done - old.front.done) rest in
        let w = length_written line has_lf in
        let size = first.size in
        let within = first.within in
        let len = length-drop (new.front.done - old.front.done) rest in
        let none : has_lf ≡ false → after ≡ [] = λ bare. drop_all (new.front.done - old.front.done) rest (omega (arith, ap length (first.last bare), size)) in
        let next : StandsNext line has_lf after = record { clean = first_is_clean rest line (lines_of after) first.lines; some = omega (arith, w, longer); last = none } in
        subst (HasLong text longest new.number) (sym (whole ∙ ap (λ r. text ++ r) first.is))
        (long_by text line has_lf after longest old.number new.number (count_on goes_on_long) long_number next (omega (arith, w, size, within, so_far.size)) longer)

    told_long : (file : List ℕ) → file_of held name ≡ Some file → HasLong text longest new.number file
    told_long file at =
        let long = step.says file (file_at file at) in
        let longer : longest < length long.line = omega (arith, long.longer, step.longest, so_far.longest_is) in
        long_of file (drop old.front.done file) long.line long.has_lf (so_far.told file at).0 long.first longer

    made_long : HasLong text longest new.number (text ++ (written (blanks (longest + 1)) false ++ []))
    made_long =
        let line = blanks (longest + 1) in
        let size = blanks_size (longest + 1) in
        let w = length_written line false in
        let longer = step.shape.0.longer in
        let within = step.shape.0.within in
        let clean : HasNoEnd line (length line) = blanks_clean (longest + 1) (length line) (omega (arith, size)) in
        long_by text line false [] longest old.number new.number (count_on goes_on_long) long_number
        (record { clean = clean; some = omega (arith, size, w); last = λ bare. refl }) (omega (arith, size, w, longer, within, so_far.size, so_far.longest_is)) (omega (arith, size))

    pub means_long : (answer : Result A (ℕ × ℕ))
        → ((whole line : List ℕ) (later : List (List ℕ)) → is_over most_bytes whole new.number ≡ false → longest < length line → on whole new.number (line ∷ later) ≡ answer)
        → Means held name meaning answer
    means_long answer decides =
        means_by held name meaning answer (HasLong text longest new.number) (file_of held name) refl (found_there (λ told fresh. step.found fresh told)) told_long
        (text ++ (written (blanks (longest + 1)) false ++ [])) made_long
        (λ whole has.
        ap meaning has.is
        ∙ so_far.means has.rest (goes_on_long has.rest)
        ∙ ap₂ (λ w n. on w n (lines_of has.rest)) (sym has.is) (sym long_number)
        ∙ ap (on whole new.number) has.lines
        ∙ decides whole has.line has.later has.within has.longer)

  -- ---- the limit

  module _ (step : IsStep held old new (Ok Over)) where
    goes_on_over : (rest : List ℕ) → Continues old rest
    goes_on_over = goes_on (Ok Over) step (λ is. cc)

    over_number : new.number ≡ old.number + 1
    over_number = step.shape

    small : length text ≤ most_bytes
    small = omega (arith, so_far.size, so_far.within)

    told_over : (file : List ℕ) → file_of held name ≡ Some file → HasOver text new.number file
    told_over file at =
        let over = step.says file (file_at file at) in
        subst (HasOver text new.number) (sym (so_far.told file at).0)
        (over_by text (drop old.front.done file) old.number new.number (count_on goes_on_over) over_number small
        (omega (arith, over.there, so_far.size)) (subst (λ n. HasNoEnd (drop old.front.done file) (most_bytes - n)) (sym so_far.size) over.none))

    made_over : HasOver text new.number (text ++ blanks (most_bytes + 1 - length text))
    made_over =
        let size = blanks_size (most_bytes + 1 - length text) in
        over_by text (blanks (most_bytes + 1 - length text)) old.number new.number (count_on goes_on_over) over_number small
        (omega (arith, size, small)) (blanks_clean (most_bytes + 1 - length text) (most_bytes - length text) (omega arith))

    pub means_over : (answer : Result A (ℕ × ℕ))
        → ((whole line : List ℕ) (later : List (List ℕ)) → is_over most_bytes whole new.number ≡ true → on whole new.number (line ∷ later) ≡ answer)
        → Means held name meaning answer
    means_over answer decides =
        means_by held name meaning answer (HasOver text new.number) (file_of held name) refl (found_there (λ told fresh. step.found fresh told)) told_over
        (text ++ blanks (most_bytes + 1 - length text)) made_over
        (λ whole has.
        ap meaning has.is
        ∙ so_far.means has.rest (goes_on_over has.rest)
        ∙ ap₂ (λ w n. on w n (lines_of has.rest)) (sym has.is) (sym over_number)
        ∙ ap (on whole new.number) has.lines
        ∙ decides whole has.line has.later has.over)

  -- ---- the end

  pub means_end : IsStep held old new (Ok End) → (answer : Result A (ℕ × ℕ)) → ((whole : List ℕ) → on whole (new.number + 1) [] ≡ answer) → Means held name meaning answer
  means_end step answer decides =
      means_by held name meaning answer (λ whole. whole ≡ text ++ []) (file_of held name) refl (found_there (λ told fresh. step.found fresh told))
      (λ file at. (so_far.told file at).0 ∙ ap (λ l. text ++ l) (step.says file (file_at file at)))
      (text ++ []) refl
      (λ whole is.
      ap meaning is
      ∙ so_far.means [] (λ ended. refl)
      ∙ ap₂ (λ w n. on w (n + 1) []) (sym is) (sym step.shape.1)
      ∙ decides whole)

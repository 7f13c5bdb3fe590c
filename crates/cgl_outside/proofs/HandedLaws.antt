-- What a reader of lines has handed out, line by line.
use Rattle.std.proofs.Common.{◌≡◌, ◌≢◌, ◌≤◌, ◌<◌, ◌+◌, ◌-◌, ◌==◌, ◌&&◌, ℕ, suc, Bool, true, false, cond, eqb, nat_lt, List, [], ◌∷◌, ◌++◌, Some, Ok, length, take, drop, get_or, refl, sym, ap, ◌∙◌, subst, arith, append-nil, append_assoc, length-append, length-drop, inl, inr}
use Rattle.std.proofs.lemmas.Bool.{cases_eq}
use Rattle.std.proofs.lemmas.Bool.Decides.{nat_tests}
use Rattle.std.proofs.lemmas.List.{take-append-drop, take_all, drop_all, get_or-take, length-take-le}
use Rattle.std.proofs.Math.Seq.{take-add, take-append_seam}
use Rattle.std.specs.List.{onto_first, slice_get}
use Rattle.cgl_text.specs.Text.{is_over, lines_of, most_bytes}
use Rattle.cgl_text.proofs.TextLaws.{last_line, line_found}
use Rattle.cgl_outside.specs.Line.{HasNoEnd, IsFirst, IsOver, IsShaped, IsTooLong, written}
use Rattle.cgl_outside.specs.Reading.{IsEnded, Reading, StepShape, begun}
use Rattle.cgl_outside.specs.Handed.{EndsLine, Handed, with_line}
use Rattle.cgl_outside.specs.declared.line_reader.LineStep.TheVariants.{Line}

not_ten : (b : ℕ) → b ≢ 10 → eqb b 10 ≡ false
not_ten b ne = grind (arith, nat_tests)

-- a line with its LF, before other lines
one_line : (line rest : List ℕ) → HasNoEnd line (length line) → lines_of ((line ++ 10 ∷ []) ++ rest) ≡ line ∷ lines_of rest
one_line [] rest clean = refl
one_line (b ∷ line) rest clean =
    ap (λ c. cond c ([] ∷ lines_of ((line ++ 10 ∷ []) ++ rest)) (onto_first b (lines_of ((line ++ 10 ∷ []) ++ rest)))) (not_ten b (clean 0 (omega arith)))
    ∙ ap (onto_first b) (one_line line rest (λ k l. clean (suc k) (omega (arith, l))))

-- and alone
line_alone : (line : List ℕ) → HasNoEnd line (length line) → lines_of (line ++ 10 ∷ []) ≡ line ∷ []
line_alone line clean = ap lines_of (sym (append-nil (line ++ 10 ∷ []))) ∙ one_line line [] clean

-- what a line more makes of a text
pub ends_nothing : EndsLine []
ends_nothing rest = refl

pub ends_more : (text line : List ℕ) → EndsLine text → HasNoEnd line (length line) → EndsLine (text ++ written line true)
ends_more text line ends clean rest =
    ap lines_of (append_assoc text (line ++ 10 ∷ []) rest)
    ∙ ends ((line ++ 10 ∷ []) ++ rest)
    ∙ ap (λ ls. lines_of text ++ ls) (one_line line rest clean)
    ∙ sym (append_assoc (lines_of text) (line ∷ []) (lines_of rest))
    ∙ ap (λ ls. (lines_of text ++ ls) ++ lines_of rest) (sym (line_alone line clean))
    ∙ ap (λ ls. ls ++ lines_of rest) (sym (ends (line ++ 10 ∷ [])))

written_lines : (line : List ℕ) (has_lf : Bool) → HasNoEnd line (length line) → (has_lf ≡ false → 0 < length line) → lines_of (written line has_lf) ≡ line ∷ []
written_lines line true clean some = line_alone line clean
written_lines line false clean some = ap lines_of (append-nil line) ∙ last_line line (length line) (some refl) (omega arith) clean

pub lines_more : (text line : List ℕ) (has_lf : Bool) → EndsLine text → HasNoEnd line (length line) → (has_lf ≡ false → 0 < length line)
    → lines_of (text ++ written line has_lf) ≡ lines_of text ++ line ∷ []
lines_more text line has_lf ends clean some = ends (written line has_lf) ∙ ap (λ ls. lines_of text ++ ls) (written_lines line has_lf clean some)

written_size : (line : List ℕ) (has_lf : Bool) (start now : ℕ) → now ≡ start + length line + cond has_lf 1 0 → length (written line has_lf) ≡ now - start
written_size line true start now size = omega (arith, length-append line (10 ∷ []), size)
written_size line false start now size = omega (arith, ap length (append-nil line), size)

shaped_some : (start now : ℕ) (line : List ℕ) (has_lf : Bool) → IsShaped start line has_lf now → has_lf ≡ false → 0 < length line
shaped_some start now line true shape bare = cc
shaped_some start now line false shape bare = omega (arith, shape.size, shape.moves)

-- ---- what is handed out

pub handed_nothing : (name : List ℕ) (longest : ℕ) → Handed [] (begun name longest)
handed_nothing name longest = record { size = refl; count = refl; ends = λ _. ends_nothing }

pub handed_lines : (text : List ℕ) (old new : Reading) → Handed text old → (IsEnded old → ⊥) → StepShape old new (Ok Line)
    → lines_of (with_line text new) ≡ lines_of text ++ new.line ∷ []
handed_lines text old new handed open_ shape =
    lines_more text new.line new.has_lf (handed.ends open_) shape.0.clean (shaped_some old.front.done new.front.done new.line new.has_lf shape.0)

ends_unless : (text line : List ℕ) (has_lf : Bool) → EndsLine text → HasNoEnd line (length line) → (has_lf ≡ false → ⊥) → EndsLine (text ++ written line has_lf)
ends_unless text line true ends clean has = ends_more text line ends clean
ends_unless text line false ends clean has = absurd (has refl)

pub handed_more : (text : List ℕ) (old new : Reading) → Handed text old → (IsEnded old → ⊥) → new.last ≡ Some (Ok Line) → StepShape old new (Ok Line)
    → Handed (with_line text new) new
handed_more text old new handed open_ at shape =
    let added = written_size new.line new.has_lf old.front.done new.front.done shape.0.size in
    record {
      size = omega (arith, length-append text (written new.line new.has_lf), added, handed.size, shape.0.moves);
      count = omega (arith, ap length (handed_lines text old new handed open_ shape), length-append (lines_of text) (new.line ∷ []), handed.count, shape.2);
      ends = λ has. ends_unless text new.line new.has_lf (handed.ends open_) shape.0.clean (λ bare. has record { line = at; bare = bare });
    }

-- ---- what is handed out of a file that is told

pub handed_front : (file text : List ℕ) (old new : Reading) → text ≡ take old.front.done file
    → IsFirst old.front.done (drop old.front.done file) new.line new.has_lf new.front.done → with_line text new ≡ take new.front.done file
handed_front file text old new is first =
    let start = old.front.done in
    let line = written new.line new.has_lf in
    let added : length line ≡ new.front.done - start = written_size new.line new.has_lf start new.front.done first.size in
    let later : start ≤ new.front.done = omega (arith, first.size) in
    let sum : start + length line ≡ new.front.done = omega (arith, added, later) in
    let front : take (length line) (drop start file) ≡ line =
    ap (take (length line)) first.is ∙ take-append_seam line (drop (new.front.done - start) (drop start file)) in
    ap (λ t. t ++ line) is ∙ ap (λ l. take start file ++ l) (sym front) ∙ sym (take-add start (length line) file) ∙ ap (λ n. take n file) sum

nth_behind : (before behind : List (List ℕ)) (line : List ℕ) → slice_get (before ++ line ∷ behind) (length before) ≡ Some line
nth_behind [] behind line = refl
nth_behind (l ∷ before) behind line = nth_behind before behind line

file_lines : (file text : List ℕ) (done : ℕ) → EndsLine text → text ≡ take done file → lines_of file ≡ lines_of text ++ lines_of (drop done file)
file_lines file text done ends is =
    ap lines_of (sym (take-append-drop done file) ∙ ap (λ t. t ++ drop done file) (sym is)) ∙ ends (drop done file)

pub handed_line : (file text line : List ℕ) (has_lf : Bool) (now : ℕ) (old : Reading) → Handed text old → (IsEnded old → ⊥) → text ≡ take old.front.done file
    → IsFirst old.front.done (drop old.front.done file) line has_lf now → slice_get (lines_of file) old.number ≡ Some line
handed_line file text line has_lf now old handed open_ is first =
    let behind = lines_of (drop (now - old.front.done) (drop old.front.done file)) in
    ap (λ ls. slice_get ls old.number) (file_lines file text old.front.done (handed.ends open_) is ∙ ap (λ ls. lines_of text ++ ls) first.lines)
    ∙ ap (slice_get (lines_of text ++ line ∷ behind)) (sym handed.count)
    ∙ nth_behind (lines_of text) behind line

pub handed_too_long : (longest now : ℕ) (file text : List ℕ) (old : Reading) → Handed text old → (IsEnded old → ⊥) → text ≡ take old.front.done file
    → IsTooLong longest old.front.done (drop old.front.done file) now → (line : List ℕ) × (slice_get (lines_of file) old.number ≡ Some line) × (longest < length line)
handed_too_long longest now file text old handed open_ is long =
    (long.line, handed_line file text long.line long.has_lf now old handed open_ is long.first, long.longer)

-- a text with no LF before its last byte has one line
one_at : (n : ℕ) (text : List ℕ) → length text ≡ n + 1 → HasNoEnd text n → length (lines_of text) ≡ 1
one_at n text size none =
    elim (cases_eq (get_or text n 0) 10) [
      | inl at ↦ ap length (line_found text n (omega (arith, size)) none at ∙ ap (λ r. take n text ∷ lines_of r) (drop_all (n + 1) text (omega (arith, size))))
      | inr other ↦
          let all : HasNoEnd text (n + 1) = λ k l. elim (cases_eq k n) [
            | inl same ↦ subst (λ j. get_or text j 0 ≢ 10) (sym same) other
            | inr apart ↦ none k (omega (arith, l, apart))
          ] in
          ap length (last_line text (n + 1) (omega (arith, size)) (omega (arith, size)) all)
    ]

both : (a b : Bool) → a ≡ true → b ≡ true → (a && b) ≡ true
both true b at e = e
both false b at e = at

over_by : (most size lines n : ℕ) → most < size → lines ≡ n → (nat_lt most size && lines == n) ≡ true
over_by most size lines n more same = both (nat_lt most size) (lines == n) (grind (arith, nat_tests)) (grind (arith, nat_tests))

pub handed_over : (file text : List ℕ) (old : Reading) → Handed text old → (IsEnded old → ⊥) → text ≡ take old.front.done file → old.front.done ≤ most_bytes
    → IsOver old.front.done (drop old.front.done file) → is_over most_bytes file (old.number + 1) ≡ true
handed_over file text old handed open_ is small over =
    let start = old.front.done in
    let rest = drop start file in
    let k = most_bytes - start in
    let more : most_bytes < length file = omega (arith, over.there, length-drop start file) in
    let sum : start + (k + 1) ≡ most_bytes + 1 = omega (arith, small) in
    let front : take (most_bytes + 1) file ≡ text ++ take (k + 1) rest =
    ap (λ n. take n file) (sym sum) ∙ take-add start (k + 1) file ∙ ap (λ t. t ++ take (k + 1) rest) (sym is) in
    let size : length (take (k + 1) rest) ≡ k + 1 = length-take-le (k + 1) rest (omega (arith, over.there)) in
    let none : HasNoEnd (take (k + 1) rest) k = λ j l e. over.none j l (sym (get_or-take (k + 1) rest j 0 (omega (arith, l))) ∙ e) in
    let lines : length (lines_of (take (most_bytes + 1) file)) ≡ old.number + 1 =
    ap (λ t. length (lines_of t)) front ∙ ap length (handed.ends open_ (take (k + 1) rest)) ∙ length-append (lines_of text) (lines_of (take (k + 1) rest))
    ∙ ap (λ n. n + length (lines_of (take (k + 1) rest))) handed.count ∙ ap (λ n. old.number + n) (one_at k (take (k + 1) rest) size none) in
    over_by most_bytes (length file) (length (lines_of (take (most_bytes + 1) file))) (old.number + 1) more lines

pub handed_whole : (file text : List ℕ) (old : Reading) → text ≡ take old.front.done file → drop old.front.done file ≡ [] → text ≡ file
handed_whole file text old is none =
    let z : length (drop old.front.done file) ≡ 0 = ap length none in
    is ∙ take_all old.front.done file (omega (arith, z, length-drop old.front.done file))

pub handed_end : (file text : List ℕ) (old : Reading) → Handed text old → text ≡ take old.front.done file → drop old.front.done file ≡ []
    → old.number ≡ length (lines_of file)
handed_end file text old handed is none = sym handed.count ∙ ap (λ t. length (lines_of t)) (handed_whole file text old is none)

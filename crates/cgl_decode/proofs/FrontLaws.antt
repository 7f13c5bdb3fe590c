-- The line in which the byte past the limit stands is a fault whatever follows it, so what follows counts for nothing.
use Rattle.std.proofs.Common.{◌≡◌, refl, sym, ap, ap₂, ◌∙◌, arith, ℕ, ◌+◌, ◌<◌, nat_lt, Bool, true, false, cond, List, [], ◌∷◌, ◌++◌, length, take, Option, Some}
use Rattle.std.proofs.lemmas.Bool.Decides.{nat_tests}
use Rattle.std.proofs.lemmas.List.{take_all}
use Rattle.cgl_text.specs.Text.{lines_of, is_over}
use Rattle.cgl_decode.specs.declared.kinds.Section.{Section}
use Rattle.cgl_decode.specs.declared.kinds.Section.TheVariants.{Start}
use Rattle.cgl_decode.specs.Records.{Record, record_of, section_after, is_end, kept}
use Rattle.cgl_text.specs.Conditions.{first_kind}
use Rattle.cgl_decode.specs.Faults.{Limits, conditions, fault_after}
use Rattle.cgl_decode.specs.Decode.{decode_within, deck_limits}
use Rattle.cgl_decode.specs.Reading.{turn, read_from}
use Rattle.cgl_decode.specs.Front.{FrontWithin, FrontDecides}
use Rattle.cgl_text.proofs.FrontLaws.{SameButLast, lines_of_front, over_front, over_last}
use Rattle.cgl_decode.proofs.ReadingLaws.{reads_alike}

-- the line with the byte past the limit

over_first : (b : Bool) (kind : ℕ) (rest : Option ℕ) → b ≡ true → cond b (Some kind) rest ≡ Some kind
over_first true kind rest e = refl
over_first false kind rest e = cc

pub over_fault : (limits : Limits) (bytes : List ℕ) (before : List Record) (r : Record) → is_over limits.bytes bytes r.line ≡ true → fault_after limits bytes before r ≡ Some 12
unfolding fault_after
over_fault limits bytes before r over = over_first (is_over limits.bytes bytes r.line) 12 (first_kind ((nat_lt 4096 r.bytes, 11) ∷ conditions limits before r)) over

pub over_alike : (limits : Limits) (bytes other : List ℕ) (before : List Record) (r : Record) → is_over limits.bytes bytes r.line ≡ is_over limits.bytes other r.line → fault_after limits bytes before r ≡ fault_after limits other before r
unfolding fault_after
over_alike limits bytes other before r same = ap (λ b. cond b (Some 12) (first_kind ((nat_lt 4096 r.bytes, 11) ∷ conditions limits before r))) same

-- two texts that pass the limit in the same line are read alike
pub read_alike : (limits : Limits) (bytes other : List ℕ) → ((n : ℕ) → is_over limits.bytes bytes n ≡ is_over limits.bytes other n)
    → (n : ℕ) (section : Section) (before : List Record) (lines : List (List ℕ)) → read_from limits bytes n section before lines ≡ read_from limits other n section before lines
read_alike limits bytes other same n section before [] = refl
read_alike limits bytes other same n section before (line ∷ lines) =
    let r = record_of n (section_after section line) line in
    ap₂ (λ fault later. turn fault n (is_end r) (before ++ kept (r ∷ [])) later)
    (over_alike limits bytes other before r (same n))
    (read_alike limits bytes other same (n + 1) (section_after section line) (before ++ kept (r ∷ [])) lines)

-- two lists of lines that are the same before the line that is over
pub read_to_over : (limits : Limits) (bytes : List ℕ) (last : ℕ) → is_over limits.bytes bytes last ≡ true
    → (n : ℕ) (section : Section) (before : List Record) (lines others : List (List ℕ)) → SameButLast lines others → n + length lines ≡ last + 1
    → read_from limits bytes n section before lines ≡ read_from limits bytes n section before others
read_to_over limits bytes last over n section before [] others same count = absurd same
read_to_over limits bytes last over n section before (line ∷ lines) [] same count = absurd same
read_to_over limits bytes last over n section before (line ∷ []) (other ∷ others) same count =
    let at : last ≡ n = omega arith in
    let here : is_over limits.bytes bytes n ≡ true = ap (is_over limits.bytes bytes) (sym at) ∙ over in
    let r = record_of n (section_after section line) line in
    let s = record_of n (section_after section other) other in
    ap (λ fault. turn fault n (is_end r) (before ++ kept (r ∷ [])) (read_from limits bytes (n + 1) (section_after section line) (before ++ kept (r ∷ [])) [])) (over_fault limits bytes before r here)
    ∙ sym (ap (λ fault. turn fault n (is_end s) (before ++ kept (s ∷ [])) (read_from limits bytes (n + 1) (section_after section other) (before ++ kept (s ∷ [])) others)) (over_fault limits bytes before s here))
read_to_over limits bytes last over n section before (line ∷ (next ∷ lines)) (other ∷ others) same count =
    let r = record_of n (section_after section line) line in
    ap (turn (fault_after limits bytes before r) n (is_end r) (before ++ kept (r ∷ [])))
    (read_to_over limits bytes last over (n + 1) (section_after section line) (before ++ kept (r ∷ [])) (next ∷ lines) others same.1 (omega arith))
    ∙ ap (λ l. read_from limits bytes n section before (l ∷ others)) same.0

-- the front of a long text, and the text

long_front : (limits : Limits) (bytes : List ℕ) → limits.bytes < length bytes → decode_within limits (take (limits.bytes + 1) bytes) ≡ decode_within limits bytes
long_front limits bytes long =
    let front = take (limits.bytes + 1) bytes in
    let count = length (lines_of front) in
    reads_alike limits front
    ∙ read_alike limits front bytes (λ n. over_front limits.bytes bytes n long) 1 Start [] (lines_of front)
    ∙ read_to_over limits bytes count (over_last limits.bytes bytes long) 1 Start [] (lines_of front) (lines_of bytes) (lines_of_front limits.bytes bytes (omega arith)) (omega arith)
    ∙ sym (reads_alike limits bytes)

front_by : (limits : Limits) (bytes : List ℕ) (long : Bool) → nat_lt limits.bytes (length bytes) ≡ long → decode_within limits (take (limits.bytes + 1) bytes) ≡ decode_within limits bytes
front_by limits bytes true e = long_front limits bytes (grind (arith, nat_tests))
front_by limits bytes false e = ap (decode_within limits) (take_all (limits.bytes + 1) bytes (grind (arith, nat_tests)))

pub front_within : FrontWithin
front_within limits bytes = front_by limits bytes (nat_lt limits.bytes (length bytes)) refl

pub front_decides : FrontDecides
front_decides bytes = front_within deck_limits bytes

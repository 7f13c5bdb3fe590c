-- The rest of a file has one answer.
use Rattle.std.proofs.Common.{◌≡◌, ◌≤◌, ◌<◌, ◌-◌, ℕ, Bool, true, false, List, [], ◌∷◌, ◌++◌, length, drop, get_or, refl, sym, ap, ◌∙◌, arith, length-append}
use Rattle.cgl_text.specs.Text.{lines_of, most_bytes}
use Rattle.cgl_outside.specs.Line.{IsFirst, IsOver, IsTooLong, written}
use Rattle.cgl_outside.specs.Reading.{Reading, StepSays}
use Rattle.cgl_outside.specs.declared.line_reader.LineStep.{LineStep}
use Rattle.cgl_outside.specs.declared.line_reader.LineStep.TheVariants.{Line, TooLong, Over, End}

same_head : (a b : List ℕ) (behind others lines : List (List ℕ)) → lines ≡ a ∷ behind → lines ≡ b ∷ others → a ≡ b
same_head a b behind others lines e f = cc

-- where an LF stands behind the line, more than the line is there
longer : (rest line behind : List ℕ) → rest ≡ written line true ++ behind → length line < length rest
longer rest line behind is =
    omega (arith, ap length is, length-append (written line true) behind, length-append line (10 ∷ []))

same_end : (start now other_now : ℕ) (rest line other : List ℕ) (has_lf other_has : Bool) → line ≡ other → IsFirst start rest line has_lf now → IsFirst start rest other other_has other_now → has_lf ≡ other_has
same_end start now other_now rest line other true true same first second = refl
same_end start now other_now rest line other false false same first second = refl
same_end start now other_now rest line other true false same first second =
    absurd (omega (arith, longer rest line (drop (now - start) rest) first.is, ap length (second.last refl), ap length same))
same_end start now other_now rest line other false true same first second =
    absurd (omega (arith, longer rest other (drop (other_now - start) rest) second.is, ap length (first.last refl), ap length same))

same_size : (start now other_now : ℕ) (rest line other : List ℕ) (has_lf other_has : Bool) → line ≡ other → has_lf ≡ other_has → IsFirst start rest line has_lf now → IsFirst start rest other other_has other_now → now ≡ other_now
same_size start now other_now rest line other true true same ends first second = omega (arith, first.size, second.size, ap length same)
same_size start now other_now rest line other false false same ends first second = omega (arith, first.size, second.size, ap length same)
same_size start now other_now rest line other true false same ends first second = cc
same_size start now other_now rest line other false true same ends first second = cc

pub one_line : (start now other_now : ℕ) (rest line other : List ℕ) (has_lf other_has : Bool) → IsFirst start rest line has_lf now
    → IsFirst start rest other other_has other_now → (line ≡ other) × (has_lf ≡ other_has) × (now ≡ other_now)
one_line start now other_now rest line other has_lf other_has first second =
    let same = same_head line other _ _ (lines_of rest) first.lines second.lines in
    let ends = same_end start now other_now rest line other has_lf other_has same first second in
    (same, ends, same_size start now other_now rest line other has_lf other_has same ends first second)

lf_behind : (line behind : List ℕ) → get_or ((line ++ 10 ∷ []) ++ behind) (length line) 0 ≡ 10
lf_behind [] behind = refl
lf_behind (b ∷ line) behind = lf_behind line behind

-- a line within the greatest file has no byte past it
not_over : (start now : ℕ) (rest line : List ℕ) (has_lf : Bool) → start ≤ most_bytes → IsFirst start rest line has_lf now → IsOver start rest → ⊥
not_over start now rest line true small first over =
    let at : get_or rest (length line) 0 ≡ 10 = ap (λ l. get_or l (length line) 0) first.is ∙ lf_behind line (drop (now - start) rest) in
    over.none (length line) (omega (arith, first.size, first.within, small)) at
not_over start now rest line false small first over =
    omega (arith, ap length (first.last refl), first.size, first.within, over.there, small)

not_none : (start now : ℕ) (rest line : List ℕ) (has_lf : Bool) → IsFirst start rest line has_lf now → rest ≡ [] → ⊥
not_none start now rest line has_lf first none = let e : lines_of [] ≡ line ∷ lines_of (drop (now - start) rest) = sym (ap lines_of none) ∙ first.lines in cc

over_some : (start : ℕ) (rest : List ℕ) → IsOver start rest → rest ≡ [] → ⊥
over_some start rest over none = let z : length rest ≡ 0 = ap length none in omega (arith, z, over.there)

not_longer : (start now other_now longest most : ℕ) (rest line : List ℕ) (has_lf : Bool) → most ≡ longest → IsFirst start rest line has_lf now → length line ≤ most → IsTooLong longest start rest other_now → ⊥
not_longer start now other_now longest most rest line has_lf same first short long =
    let is = (one_line start now other_now rest line long.line has_lf long.has_lf first long.first).0 in
    omega (arith, ap length is, short, long.longer, same)

pub one_answer : (start : ℕ) (rest : List ℕ) (new other : Reading) (step another : LineStep) → start ≤ most_bytes → new.longest ≡ other.longest
    → StepSays start rest new step → StepSays start rest other another → step ≡ another
one_answer start rest new other Line Line small same says also = refl
one_answer start rest new other Line TooLong small same says also = absurd (not_longer start _ _ other.longest new.longest rest new.line new.has_lf same says.0 says.1 also)
one_answer start rest new other Line Over small same says also = absurd (not_over start _ rest new.line new.has_lf small says.0 also)
one_answer start rest new other Line End small same says also = absurd (not_none start _ rest new.line new.has_lf says.0 also)
one_answer start rest new other TooLong Line small same says also = absurd (not_longer start _ _ new.longest other.longest rest other.line other.has_lf (sym same) also.0 also.1 says)
one_answer start rest new other TooLong TooLong small same says also = refl
one_answer start rest new other TooLong Over small same says also = absurd (not_over start _ rest says.line says.has_lf small says.first also)
one_answer start rest new other TooLong End small same says also = absurd (not_none start _ rest says.line says.has_lf says.first also)
one_answer start rest new other Over Line small same says also = absurd (not_over start _ rest other.line other.has_lf small also.0 says)
one_answer start rest new other Over TooLong small same says also = absurd (not_over start _ rest also.line also.has_lf small also.first says)
one_answer start rest new other Over Over small same says also = refl
one_answer start rest new other Over End small same says also = absurd (over_some start rest says also)
one_answer start rest new other End Line small same says also = absurd (not_none start _ rest other.line other.has_lf also.0 says)
one_answer start rest new other End TooLong small same says also = absurd (not_none start _ rest also.line also.has_lf also.first says)
one_answer start rest new other End Over small same says also = absurd (over_some start rest also says)
one_answer start rest new other End End small same says also = refl

-- Simple rounding keeps the laws of a generator.
use Rattle.std.proofs.Common.{◌≡◌, ℕ, ℤ, pos, ◌<◌, ◌^◌, List, [], ◌∷◌, Option, Some, None, Bool, true, false, cond, not, ◌||◌, ◌&&◌, ◌==◌, map, length, refl, sym, ap, ◌∙◌, subst, arith, inl}
use Rattle.std.specs.Prelude.{◌<ℤ◌, int_lt, unsigned_abs, slice_get, IsTrue}
use Rattle.std.specs.List.{AllByRecursion, list_all, list_any}
use Rattle.std.proofs.lemmas.Int.{ints}
use Rattle.std.proofs.lemmas.Bool.{true≢false, false≢true}
use Rattle.std.proofs.lemmas.Bool.Decides.{nat_tests}
use Rattle.cgl_num.specs.Fraction.{Fraction}
use Rattle.cgl_num.proofs.GcdLaws.{gcd_of_divides, gcd_of_zero}
use Rattle.cgl_model.specs.declared.linear.Ineq.{Ineq}
use Rattle.cgl_model.specs.declared.mip.Model.{Model}
use Rattle.cgl_model.specs.declared.places.Place.{Place}
use Rattle.cgl_model.specs.declared.places.Side.{Side}
use Rattle.cgl_model.specs.Inequality.{Term, violation}
use Rattle.cgl_model.specs.IntegerForm.{forms_of}
use Rattle.cgl_model.specs.Point.{Point}
use Rattle.cgl_model.specs.Rising.{IsRising}
use Rattle.cgl_derive.specs.declared.answer.Answer.TheVariants.{Nothing, Cut, Wide}
use Rattle.cgl_derive.specs.declared.answer.Candidate.{Candidate}
use Rattle.cgl_derive.specs.declared.step.Derivation.{Derivation, out-Derivation, out-roll-Derivation}
use Rattle.cgl_derive.specs.declared.step.Round.{Round}
use Rattle.cgl_derive.specs.declared.step.Step.{Step, roll-Step, out-roll-Step}
use Rattle.cgl_derive.specs.Derives.{AreIntegers, Derives, IsRightRound, LastIs, RoundIsRight, claim_in, claim_of, is_integer}
use Rattle.cgl_derive.specs.Meaning.{side_at}
use Rattle.cgl_derive.specs.Rounding.{divides, divides_all, divisor_of, quotients, rounded}
use Rattle.cgl_derive.proofs.LayerLaws.{derived}
use Rattle.cgl_derive.proofs.RoundingLaws.{above_none, all_divided, not_all_zero, quotient_stands, rounded_right}
use Rattle.cgl_gen.specs.CutLaws.{IsCutAt}
use Rattle.cgl_gen.specs.Listable.{IsListable, is_large, is_large_cut, is_violated, is_wide_at}
use Rattle.cgl_gen.specs.RoundMember.{answer_at, round_from, round_member, round_says, round_step}
use Rattle.cgl_gen.specs.Setting.{Setting, IsSetting}
use Rattle.cgl_gen.specs.SidePlaces.{IsSideOf, side_has}

and_true : (a b : Bool) → (a && b) ≡ true → (a ≡ true) × (b ≡ true)
and_true true b e = (refl, e)
and_true false b e = absurd (false≢true e)

or_false : (a b : Bool) → (a || b) ≡ false → (a ≡ false) × (b ≡ false)
or_false true b e = absurd (true≢false e)
or_false false b e = (refl, e)

-- ---- the divisor

each_divided : (terms : List Term) → IsTrue (divides_all (pos (divisor_of terms)) terms)
each_divided terms = all_divided (divisor_of terms) terms (gcd_of_divides (map (λ t. t.1) terms))

some_terms : (terms : List Term) → (length terms == 0) ≡ false → terms ≡ [] → ⊥
some_terms [] e is = true≢false e
some_terms (t ∷ terms) e is = cc

divisor_above : (terms : List Term) → IsRising terms → (length terms == 0) ≡ false → pos 0 <ℤ pos (divisor_of terms)
divisor_above terms rising some =
    let above : 0 < divisor_of terms = above_none (divisor_of terms) (λ none. not_all_zero terms rising (some_terms terms some) (gcd_of_zero (map (λ t. t.1) terms) none)) in
    omega (arith, ints, above)

-- ---- the cut

integers : (m : Model) (terms : List Term) → list_all (λ t. is_integer m t.0) terms ≡ true → AreIntegers m terms
integers m [] e = tt
integers m (t ∷ terms) e =
    let both = and_true (is_integer m t.0) (list_all (λ u. is_integer m u.0) terms) e in
    (both.0, integers m terms both.1)

quotients_rise : (g : ℤ) (terms : List Term) → pos 0 <ℤ g → IsTrue (divides_all g terms) → IsRising terms → IsRising (quotients g terms)
quotients_rise g [] h all r = tt
quotients_rise g (t ∷ []) h all r = quotient_stands t.1 g h (and_true (divides g t.1) true all).0 r
quotients_rise g (t ∷ u ∷ terms) h all r =
    let both = and_true (divides g t.1) (divides_all g (u ∷ terms)) all in
    (quotient_stands t.1 g h both.0 r.0, r.1, quotients_rise g (u ∷ terms) h both.1 r.2)

-- ---- its derivation

means_right : (m : Model) (o : Option Ineq) (from : Ineq) (round : Round) → o ≡ Some from → RoundIsRight m from round.g round.claim → IsRightRound m o round
means_right m None from round e r = cc
means_right m (Some c) from round e r =
    let same : from ≡ c = cc in
    subst (λ (f : Ineq). RoundIsRight m f round.g round.claim) same r

derives_step : (m : Model) (side : Side) (g : ℤ) (c : Ineq) → side_at (forms_of m).sides side.place ≡ Some side.ineq → RoundIsRight m side.ineq g c → Derives m [] (round_from side.place g c) c
unfolding round_from
derives_step m side g c place r =
    (derived m [] (round_step side.place g c ∷ []) c).1 ((means_right m (side_at (forms_of m).sides side.place) side.ineq _ place r, tt), inl refl)

steps_are : (place : Place) (g : ℤ) (c : Ineq) → (out-Derivation (round_from place g c)).steps ≡ roll-Step (round_step place g c) ∷ []
unfolding round_from
steps_are place g c = ap (λ d. d.steps) (out-roll-Derivation _)

-- ---- what an answer that is a cut tells

pick : (a b c large wide violated : Bool) (given k : Candidate) → cond (a || not b || c) Nothing (cond (large || wide) Wide (cond violated (Cut given) Nothing)) ≡ Cut k
    → (a ≡ false) × (b ≡ true) × (large ≡ false) × (violated ≡ true) × (given ≡ k)
pick true b c l w v given k e = cc
pick false false c l w v given k e = cc
pick false true true l w v given k e = cc
pick false true false true w v given k e = cc
pick false true false false true v given k e = cc
pick false true false false false false given k e = cc
pick false true false false false true given k e = (refl, refl, refl, refl, cc)

record IsRounded (m : Model) (x : Point) (side : Side) (c : Candidate) : Type 0 where
  some : (length side.ineq.terms == 0) ≡ false
  integer : list_all (λ t. is_integer m t.0) side.ineq.terms ≡ true
  small : is_large_cut c.cut ≡ false
  violated : is_violated c.cut x ≡ true
  cut : c.cut ≡ rounded (pos (divisor_of side.ineq.terms)) side.ineq
  derivation : c.derivation ≡ round_from side.place (pos (divisor_of side.ineq.terms)) c.cut
  violation : c.violation ≡ violation c.cut x

is_rounded : (m : Model) (x : Point) (side : Side) (c : Candidate) → round_member m x side ≡ Cut c → IsRounded m x side c
unfolding round_member
is_rounded m x side c e =
    let g = pos (divisor_of side.ineq.terms) in
    let cut = rounded g side.ineq in
    let given : Candidate = record { cut = cut; derivation = round_from side.place g cut; violation = violation cut x } in
    let p = pick (length side.ineq.terms == 0) (list_all (λ t. is_integer m t.0) side.ineq.terms) (divides g side.ineq.rhs) (is_large_cut cut) (is_wide_at cut x) (is_violated cut x) given c e in
    let same : c.cut ≡ cut = sym (ap (λ k. k.cut) p.4) in
    record {
      some = p.0;
      integer = p.1;
      small = ap is_large_cut same ∙ p.2;
      violated = ap (λ k. is_violated k x) same ∙ p.3;
      cut = same;
      derivation = sym (ap (λ k. k.derivation) p.4) ∙ ap (round_from side.place g) (sym same);
      violation = sym (ap (λ k. k.violation) p.4) ∙ ap (λ k. violation k x) (sym same);
    }

small_number : (z : ℤ) → is_large z ≡ false → unsigned_abs z < 10 ^ 24
small_number z e = grind (arith, nat_tests)

small_terms : (terms : List Term) → list_any (λ t. is_large t.1) terms ≡ false → AllByRecursion (λ t. unsigned_abs t.1 < 10 ^ 24) terms
small_terms [] e = tt
small_terms (t ∷ terms) e =
    let both = or_false (is_large t.1) (list_any (λ u. is_large u.1) terms) e in
    (small_number t.1 both.0, small_terms terms both.1)

listable : (c : Ineq) → is_large_cut c ≡ false → IsListable c
listable c e =
    let both = or_false (list_any (λ t. is_large t.1) c.terms) (is_large c.rhs) e in
    record { terms = small_terms c.terms both.0; rhs = small_number c.rhs both.1 }

above_zero : (z : ℤ) → int_lt (pos 0) z ≡ true → pos 0 <ℤ z
above_zero z e = grind (arith, ints)

member_lawful : (m : Model) (x : Point) (side : Side) (c : Candidate) → IsSideOf m side → round_member m x side ≡ Cut c → IsCutAt m x c
member_lawful m x side c has said =
    let terms = side.ineq.terms in
    let g = pos (divisor_of terms) in
    let r = is_rounded m x side c said in
    let above = divisor_above terms has.rising r.some in
    let right = rounded_right m side.ineq g above (each_divided terms) (integers m terms r.integer) in
    let derives = derives_step m side g c.cut has.found (subst (RoundIsRight m side.ineq g) (sym r.cut) right) in
    let steps = ap (λ d. (out-Derivation d).steps) r.derivation ∙ steps_are side.place g c.cut in
    let claim : claim_of (roll-Step (round_step side.place g c.cut)) ≡ c.cut = ap claim_in (out-roll-Step _) in
    record {
      derives = subst (λ (d : Derivation). Derives m [] d c.cut) (sym r.derivation) derives;
      ends = subst (λ (s : List Step). LastIs s c.cut) (sym steps) claim;
      short = omega (arith, ap length steps);
      violation = r.violation;
      violated = subst (λ (f : Fraction). pos 0 <ℤ f.num) (sym r.violation) (above_zero (violation c.cut x).num r.violated);
      listable = listable c.cut r.small;
      rising = subst (λ (i : Ineq). IsRising i.terms) (sym r.cut) (quotients_rise g terms above (each_divided terms) has.rising);
    }

-- ---- items

at_lawful : (s : Setting) (o : Option Side) (item : ℕ) (c : Candidate) → IsSetting s → slice_get (forms_of s.model).sides item ≡ o → answer_at s.model s.point o ≡ Cut c → IsCutAt s.model s.point c
at_lawful s None item c valid at said = cc
at_lawful s (Some side) item c valid at said = member_lawful s.model s.point side c (side_has s item side valid at) said

pub round_lawful : (s : Setting) (item : ℕ) (c : Candidate) → IsSetting s → round_says s item ≡ Cut c → IsCutAt s.model s.point c
unfolding round_says
round_lawful s item c valid said = at_lawful s (slice_get (forms_of s.model).sides item) item c valid refl said

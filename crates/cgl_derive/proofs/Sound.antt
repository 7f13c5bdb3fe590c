-- Where a derivation proves an inequality, each feasible point meets it.
use Rattle.std.proofs.Common.{◌≡◌, ◌⊎◌, ℕ, zero, suc, ℤ, pos, negsuc, List, [], ◌∷◌, ◌++◌, find, Option, Some, None, true, false, Bool, cond, IfSome, refl, sym, ap, ◌∙◌, subst, inl, inr, arith, ⊎_elim}
use Rattle.std.specs.Prelude.{◌+ℤ◌, ◌*ℤ◌, ◌≤ℤ◌, ◌<ℤ◌, slice_get, option_map}
use Rattle.std.specs.List.{AllByRecursion}
use Rattle.std.proofs.lemmas.Int.{ints, by_lt_z}
use Rattle.std.proofs.Math.IntN.{neg_ℤ, neg_ℤ-+ℤ, zero-*ℤ, *ℤ_comm}
use Rattle.cgl_num.specs.IntegerLaws.{*ℤ_assoc, +ℤ-*ℤ, cancel_right, scale_right, neg-*ℤ}
use Rattle.cgl_model.specs.declared.linear.Ineq.{Ineq}
use Rattle.cgl_model.specs.declared.mip.Model.{Model}
use Rattle.cgl_model.specs.declared.places.Side.{Side}
use Rattle.cgl_model.specs.declared.places.Place.{Place}
use Rattle.cgl_model.specs.Feasible.{IsFeasible}
use Rattle.cgl_model.specs.FormList.{same_place}
use Rattle.cgl_model.specs.Inequality.{Term, Meets, sum_at}
use Rattle.cgl_model.specs.IntegerForm.{forms_of, negated}
use Rattle.cgl_model.specs.Point.{Point, number_at}
use Rattle.cgl_derive.specs.declared.step.Ref.{Ref}
use Rattle.cgl_derive.specs.declared.step.Ref.TheVariants as by
use Rattle.cgl_derive.specs.declared.step.Lin.{Lin}
use Rattle.cgl_derive.specs.declared.step.Round.{Round}
use Rattle.cgl_derive.specs.declared.step.Knap.{Knap}
use Rattle.cgl_derive.specs.declared.step.Step.{Step, out-Step}
use Rattle.cgl_derive.specs.declared.step.Step.TheOpen as step
use Rattle.cgl_derive.specs.declared.step.Split.{Split, out-Split}
use Rattle.cgl_derive.specs.declared.step.Derivation.{Derivation, out-Derivation}
use Rattle.cgl_derive.specs.Meaning.{side_at, meaning}
use Rattle.cgl_derive.specs.Derives.{Layer, Part, claim_in, claim_of, AreIntegers, weighted, onto_parts, parts_of, LinIsRight, IsRightLin, IsRightRound, IsRightKnap, SplitIsRight, below, above, Judge, IsRightIn, IsAbsurd, Proves, DerivesWithin, Derives}
use Rattle.cgl_derive.specs.Soundness.{AreMet, ArePartsMet, IsSoundAt}
use Rattle.cgl_derive.proofs.KnapSound.{knap_sound}
use Rattle.cgl_derive.proofs.RoundSound.{whole_sum, rounding_sound}
use Rattle.cgl_derive.proofs.SumLaws.{dot_same, weighted_sum, times_sum}

-- ---- weighted sums

scale_both : (b u v : ℤ) → pos 0 ≤ℤ b → u ≤ℤ v → (b *ℤ u) ≤ℤ (b *ℤ v)
scale_both (pos n) u v h l = let scaled = scale_right u v n l in omega (arith, ints, scaled, *ℤ_comm (pos n) u, *ℤ_comm (pos n) v)
scale_both (negsuc n) u v h l = absurd (omega (arith, ints, h))

-- what the parts say of a point, each times its multiplier, add up
parts_add : (x : Point) (parts : List Part) → AllByRecursion (λ part. pos 0 ≤ℤ part.1) parts → ArePartsMet x parts
    → (weighted (λ c. c.rhs) parts *ℤ x.d) ≤ℤ weighted (λ c. sum_at x.p c.terms) parts
parts_add x [] all met = let none = zero-*ℤ x.d in omega (arith, ints, none)
parts_add x (part ∷ parts) all met =
    let here = scale_both part.1 (part.0.rhs *ℤ x.d) (sum_at x.p part.0.terms) all.0 met.0 in
    let rest = parts_add x parts all.1 met.1 in
    let first = *ℤ_assoc part.1 part.0.rhs x.d in
    let both = +ℤ-*ℤ (part.1 *ℤ part.0.rhs) (weighted (λ c. c.rhs) parts) x.d in
    omega (arith, ints, here, rest, first, both)

cancel_factor : (q u v : ℤ) → pos 0 <ℤ q → (q *ℤ u) ≤ℤ (q *ℤ v) → u ≤ℤ v
cancel_factor (pos n) u v h l = cancel_right u v n (omega (arith, ints, h)) (omega (arith, ints, l, *ℤ_comm (pos n) u, *ℤ_comm (pos n) v))
cancel_factor (negsuc n) u v h l = absurd (omega (arith, ints, h))

scale_denominator : (b c d : ℤ) → pos 0 <ℤ d → b ≤ℤ c → (b *ℤ d) ≤ℤ (c *ℤ d)
scale_denominator b c (pos n) h l = scale_right b c n l
scale_denominator b c (negsuc n) h l = absurd (omega (arith, ints, h))

pub lin_sound : (m : Model) (parts : List Part) (q : ℤ) (claim : Ineq) (x : Point) → LinIsRight m parts q claim → pos 0 <ℤ x.d → ArePartsMet x parts → Meets x claim
lin_sound m parts q claim x r d met =
    let left : weighted (λ c. sum_at x.p c.terms) parts ≡ q *ℤ sum_at x.p claim.terms = weighted_sum x.p parts ∙ dot_same x.p _ _ r.left ∙ times_sum x.p q claim.terms in
    let right = scale_denominator (q *ℤ claim.rhs) (weighted (λ c. c.rhs) parts) x.d d r.right in
    let all = parts_add x parts r.multipliers met in
    let assoc = *ℤ_assoc q claim.rhs x.d in
    cancel_factor q (claim.rhs *ℤ x.d) (sum_at x.p claim.terms) r.positive (omega (arith, ints, left, right, all, assoc))

-- ---- what references mean

get_all : {A : Type 0} (P : A → Type 0) (xs : List A) (k : ℕ) (a : A) → AllByRecursion P xs → slice_get xs k ≡ Some a → P a
get_all P [] k a all e = cc
get_all {A} P (x ∷ xs) zero a all e = let Q : Option A → Type 0 = λ o. IfSome o P in subst Q e all.0
get_all P (x ∷ xs) (suc k) a all e = get_all P xs k a all.1 e

found_by : (x : Point) (c : Ineq) (s : Side) (b : Bool) (o : Option Side) → Meets x s.ineq → (option_map (λ t. t.ineq) o ≡ Some c → Meets x c)
    → option_map (λ t. t.ineq) (cond b (Some s) o) ≡ Some c → Meets x c
found_by x c s true o here rest e = let Q : Option Ineq → Type 0 = λ i. IfSome i (Meets x) in subst Q e here
found_by x c s false o here rest e = rest e

found_meets : (x : Point) (sides : List Side) (place : Place) (c : Ineq) → AllByRecursion (λ s. Meets x s.ineq) sides → side_at sides place ≡ Some c → Meets x c
found_meets x [] place c all e = cc
found_meets x (s ∷ sides) place c all e =
    found_by x c s (same_place place s.place) (find (λ t. same_place place t.place) sides) all.0 (found_meets x sides place c all.1) e

abbrev pub SidesAreMet : Model → Point → Type 0
SidesAreMet m x = AllByRecursion (λ s. Meets x s.ineq) (forms_of m).sides

meets_meaning : (m : Model) (x : Point) (shared givens claims : List Ineq) (r : Ref) (c : Ineq) → SidesAreMet m x
    → AreMet x shared → AreMet x givens → AreMet x claims → meaning (forms_of m).sides shared givens claims r ≡ Some c → Meets x c
meets_meaning m x shared givens claims (by.Side place) c sides ss gs cs e = found_meets x (forms_of m).sides place c sides e
meets_meaning m x shared givens claims (by.Step k) c sides ss gs cs e = get_all (Meets x) claims k c cs e
meets_meaning m x shared givens claims (by.Given k) c sides ss gs cs e = get_all (Meets x) givens k c gs e
meets_meaning m x shared givens claims (by.Shared k) c sides ss gs cs e = get_all (Meets x) shared k c ss e

onto_met : (x : Point) (o : Option Ineq) (b : ℤ) (rest : Option (List Part)) (parts : List Part) → ((c : Ineq) → o ≡ Some c → Meets x c)
    → ((ps : List Part) → rest ≡ Some ps → ArePartsMet x ps) → onto_parts o b rest ≡ Some parts → ArePartsMet x parts
onto_met x None b rest parts h hs e = cc
onto_met x (Some c) b None parts h hs e = cc
onto_met x (Some c) b (Some ps) parts h hs e =
    let Q : Option (List Part) → Type 0 = λ o. IfSome o (ArePartsMet x) in
    subst Q e (h c refl, hs ps refl)

parts_met : (x : Point) (means : Ref → Option Ineq) → ((r : Ref) (c : Ineq) → means r ≡ Some c → Meets x c) → (refs : List (Ref × ℤ)) (parts : List Part) → parts_of means refs ≡ Some parts → ArePartsMet x parts
parts_met x means h [] parts e = let Q : Option (List Part) → Type 0 = λ o. IfSome o (ArePartsMet x) in subst Q e tt
parts_met x means h (r ∷ refs) parts e = onto_met x (means r.0) r.1 (parts_of means refs) parts (h r.0) (parts_met x means h refs) e

-- ---- splits

sum_negated : (p : List ℤ) (terms : List Term) → sum_at p (negated terms) ≡ neg_ℤ (sum_at p terms)
sum_negated p [] = refl
sum_negated p (t ∷ terms) =
    ap (λ z. z +ℤ sum_at p (negated terms)) (neg-*ℤ t.1 (number_at p t.0)) ∙ ap (λ z. neg_ℤ (t.1 *ℤ number_at p t.0) +ℤ z) (sum_negated p terms)
    ∙ sym (neg_ℤ-+ℤ (t.1 *ℤ number_at p t.0) (sum_at p terms))

-- one of the two sides of a split holds
pub either_side : (m : Model) (x : Point) (p : List Term) (p0 : ℤ) → IsFeasible m x → AreIntegers m p → Meets x (below p p0) ⊎ Meets x (above p p0)
either_side m x p p0 f all =
    let whole = whole_sum m x p f all in
    let k = whole.0 in
    by_lt_z p0 k
    (λ more. inr (subst (λ (z : ℤ). ((p0 +ℤ pos 1) *ℤ x.d) ≤ℤ z) (sym whole.1) (scale_denominator (p0 +ℤ pos 1) k x.d f.point.positive (omega (arith, ints, more)))))
    (λ less.
    let sum : neg_ℤ k *ℤ x.d ≡ sum_at x.p (negated p) = neg-*ℤ k x.d ∙ sym (sum_negated x.p p ∙ ap neg_ℤ whole.1) in
    inl (subst (λ (z : ℤ). (neg_ℤ p0 *ℤ x.d) ≤ℤ z) sum (scale_denominator (neg_ℤ p0) (neg_ℤ k) x.d f.point.positive (omega (arith, ints, less)))))

-- ---- lists of steps

pub all_push : {A : Type 0} (P : A → Type 0) (xs : List A) (a : A) → AllByRecursion P xs → P a → AllByRecursion P (xs ++ a ∷ [])
all_push P [] a all h = (h, tt)
all_push P (x ∷ xs) a all h = (all.0, all_push P xs a all.1 h)

lin_meets : (m : Model) (x : Point) (lin : Lin) (o : Option (List Part)) → IsFeasible m x → ((parts : List Part) → o ≡ Some parts → ArePartsMet x parts) → IsRightLin m o lin → Meets x lin.claim
lin_meets m x lin None f h right = absurd right
lin_meets m x lin (Some parts) f h right = lin_sound m parts lin.q lin.claim x right f.point.positive (h parts refl)

round_meets : (m : Model) (x : Point) (round : Round) (o : Option Ineq) → IsFeasible m x → ((c : Ineq) → o ≡ Some c → Meets x c) → IsRightRound m o round → Meets x round.claim
round_meets m x round None f h right = absurd right
round_meets m x round (Some from) f h right = rounding_sound m from round.claim round.g x right f (h from refl)

knap_meets : (m : Model) (x : Point) (knap : Knap) (o : Option Ineq) → IsFeasible m x → ((c : Ineq) → o ≡ Some c → Meets x c) → IsRightKnap m o knap → Meets x knap.claim
knap_meets m x knap None f h right = absurd right
knap_meets m x knap (Some from) f h right = knap_sound m from knap.claim x right f (h from refl)

split_meets : (m : Model) (x : Point) (p : List Term) (p0 : ℤ) (claim : Ineq) → IsFeasible m x → AreIntegers m p → (Meets x (below p p0) → Meets x claim) → (Meets x (above p p0) → Meets x claim) → Meets x claim
split_meets m x p p0 claim f all left right = ⊎_elim left right (either_side m x p p0 f all)

pub split_sound : (m : Model) (x : Point) (inner : Judge) (givens claims : List Ineq) (s : Split) → IsFeasible m x → IsSoundAt x inner → AreMet x givens → AreMet x claims
    → SplitIsRight m inner givens claims s → Meets x (out-Split s).claim
split_sound m x inner givens claims s f sound gs cs right =
    let split = out-Split s in
    split_meets m x split.p split.p0 split.claim f right.integer
    (λ met. sound (givens ++ below split.p split.p0 ∷ []) claims (out-Derivation split.left).steps split.claim (all_push (Meets x) givens _ gs met) cs right.left)
    (λ met. sound (givens ++ above split.p split.p0 ∷ []) claims (out-Derivation split.right).steps split.claim (all_push (Meets x) givens _ gs met) cs right.right)

meets_step : (m : Model) (shared : List Ineq) (x : Point) (inner : Judge) → SidesAreMet m x → IsFeasible m x → AreMet x shared → IsSoundAt x inner → (givens claims : List Ineq) (s : Layer)
    → AreMet x givens → AreMet x claims → IsRightIn m shared inner givens claims s → Meets x (claim_in s)
meets_step m shared x inner sides f ss sound givens claims (step.Lin lin) gs cs right =
    lin_meets m x lin (parts_of (meaning (forms_of m).sides shared givens claims) lin.refs) f
    (parts_met x (meaning (forms_of m).sides shared givens claims) (λ r c e. meets_meaning m x shared givens claims r c sides ss gs cs e) lin.refs) right
meets_step m shared x inner sides f ss sound givens claims (step.Round round) gs cs right =
    round_meets m x round (meaning (forms_of m).sides shared givens claims round.from) f (λ c e. meets_meaning m x shared givens claims round.from c sides ss gs cs e) right
meets_step m shared x inner sides f ss sound givens claims (step.Split s) gs cs right = split_sound m x inner givens claims s f sound gs cs right
meets_step m shared x inner sides f ss sound givens claims (step.Knap knap) gs cs right =
    knap_meets m x knap (meaning (forms_of m).sides shared givens claims knap.from) f (λ c e. meets_meaning m x shared givens claims knap.from c sides ss gs cs e) right

absurd_meets : (x : Point) (claim : Ineq) → pos 0 <ℤ x.d → IsAbsurd claim → Meets x claim → ⊥
absurd_meets x claim h a met =
    let none : (claim.rhs *ℤ x.d) ≤ℤ pos 0 = subst (λ (terms : List Term). (claim.rhs *ℤ x.d) ≤ℤ sum_at x.p terms) a.0 met in
    let least = scale_denominator (pos 1) claim.rhs x.d h (omega (arith, ints, a.1)) in
    omega (arith, ints, h, none, least, *ℤ_comm (pos 1) x.d)

ends : (x : Point) (s : Step) (goal : Ineq) → pos 0 <ℤ x.d → (claim_of s ≡ goal) ⊎ IsAbsurd (claim_of s) → Meets x (claim_of s) → Meets x goal
ends x s goal h e met = ⊎_elim (λ same. subst (Meets x) same met) (λ a. absurd (absurd_meets x (claim_of s) h a met)) e

meets_list : (m : Model) (shared : List Ineq) (x : Point) (inner : Judge) → SidesAreMet m x → IsFeasible m x → AreMet x shared → IsSoundAt x inner → IsSoundAt x (Proves m shared inner)
meets_list m shared x inner sides f ss sound givens claims [] goal gs cs (right, end) = absurd end
meets_list m shared x inner sides f ss sound givens claims (s ∷ []) goal gs cs (right, end) =
    ends x s goal f.point.positive end (meets_step m shared x inner sides f ss sound givens claims (out-Step s) gs cs right.0)
meets_list m shared x inner sides f ss sound givens claims (s ∷ t ∷ rest) goal gs cs (right, end) =
    let here = meets_step m shared x inner sides f ss sound givens claims (out-Step s) gs cs right.0 in
    meets_list m shared x inner sides f ss sound givens (claims ++ claim_of s ∷ []) (t ∷ rest) goal gs (all_push (Meets x) claims (claim_of s) cs here) (right.1, end)

pub sound_within : (m : Model) (shared : List Ineq) (x : Point) (n : ℕ) → SidesAreMet m x → IsFeasible m x → AreMet x shared → IsSoundAt x (DerivesWithin m shared n)
unfolding DerivesWithin
sound_within m shared x zero sides f ss = meets_list m shared x (λ givens claims steps goal. ⊥) sides f ss (λ givens claims steps goal gs cs no. absurd no)
sound_within m shared x (suc n) sides f ss = meets_list m shared x (DerivesWithin m shared n) sides f ss (sound_within m shared x n sides f ss)

pub sound : (m : Model) (shared : List Ineq) (d : Derivation) (goal : Ineq) (x : Point) → SidesAreMet m x → Derives m shared d goal → IsFeasible m x → AreMet x shared → Meets x goal
sound m shared d goal x sides derives f ss = sound_within m shared x 64 sides f ss [] [] (out-Derivation d).steps goal tt tt derives

-- What is right of known sums and cases.
use Rattle.std.proofs.Common.{◌≡◌, pos, negsuc, ◌+◌, ◌*◌, ◌<◌, ◌==◌, ◌^◌, Bool, true, false, [], ◌∷◌, refl, inl, inr, arith}
use Rattle.std.specs.Prelude.{◌+ℤ◌, ◌*ℤ◌, ◌-ℤ◌, unsigned_abs, if◌then◌else◌}
use Rattle.std.proofs.lemmas.Int.{ints}
use Rattle.std.proofs.lemmas.Bool.{false≢true}
use Rattle.cgl_num.specs.Gcd.{gcd, gcd_of}
use Rattle.cgl_num.specs.Fraction.{lowest}
use Rattle.cgl_model.specs.declared.linear.Ineq.{Ineq}
use Rattle.cgl_model.specs.declared.mip.Model.{Model}
use Rattle.cgl_model.specs.declared.places.End.TheVariants.{Lower, Upper}
use Rattle.cgl_model.specs.IntegerForm.{forms_of, row_shape}
use Rattle.cgl_derive.specs.declared.step.Ref.TheVariants as by
use Rattle.cgl_derive.specs.declared.step.Step.TheOpen as step
use Rattle.cgl_derive.specs.declared.step.Split.{Split}
use Rattle.cgl_derive.specs.declared.step.Derivation.{out-Derivation}
use Rattle.cgl_derive.specs.Derives.{Derives, DerivesWithin, IsRightIn, Layer, LinIsRight, SplitIsRight, above, below, claim_in}
use Rattle.cgl_derive.specs.Layers.{ProvesInside, derivation}
use Rattle.cgl_derive.specs.KnownDerivations.{at_least, at_most_one, cases, end_of_row, infeasible, ineq, left_case, lin, one_column, round, summed, two_columns}
use Rattle.cgl_derive.specs.KnownSplits.{absurd_case, after_cases, at_one, by_zero, cases_at, claim_before, continuous_cases, greatest, nothing_said, one_case_twice, opposite_ends, split, taken}
use Rattle.cgl_derive.proofs.KnownLaws.{derives, left_right, once_right, refuted}
use Rattle.cgl_derive.proofs.LayerLaws.{derived, derived_within}
use Rattle.cgl_derive.proofs.RoundingLaws.{rounded_right}

-- ---- sums

empty_right : (m : Model) → LinIsRight m [] (pos 1) nothing_said
empty_right m = record {
  multipliers = tt;
  positive = omega (arith, ints);
  columns = tt;
  left = (λ j. refl);
  right = omega (arith, ints);
  narrow_left = (λ j. omega arith);
  narrow_right = omega arith;
  narrow_terms = tt;
  narrow_rhs = omega arith;
}

pub known_nothing : Derives one_column [] (summed [] nothing_said) nothing_said
known_nothing = derives one_column [] 64 [] [] (lin (pos 1) [] nothing_said ∷ []) nothing_said (empty_right one_column, tt) (inl refl)

pub no_denominator : (goal : Ineq) → Derives one_column [] by_zero goal → ⊥
no_denominator goal = refuted one_column [] (lin (pos 0) [] (at_least (pos 1) (pos 7))) [] goal (λ r. omega (arith, ints, r.positive))

once_two : (b : Bool) → pos 1 *ℤ ((if b then negsuc 1 else pos 0) +ℤ pos 0) +ℤ pos 0 ≡ pos 1 *ℤ ((if b then negsuc 1 else pos 0) +ℤ pos 0)
once_two true = refl
once_two false = refl

weaker_right : LinIsRight one_column ((at_least (negsuc 1) (negsuc 2), pos 1) ∷ []) (pos 1) (at_least (negsuc 1) (negsuc 6))
weaker_right = record {
  multipliers = (omega (arith, ints), tt);
  positive = omega (arith, ints);
  columns = (omega arith, tt);
  left = (λ j. once_two (j == 0));
  right = omega (arith, ints);
  narrow_left = (λ j. elim (j == 0) as (λ b. 1 * unsigned_abs ((if b then negsuc 1 else pos 0) +ℤ pos 0) + 0 < 2 ^ 127) [ true ↦ omega arith | false ↦ omega arith ]);
  narrow_right = omega arith;
  narrow_terms = (omega arith, tt);
  narrow_rhs = omega arith;
}

pub known_weaker : Derives one_column [] (summed ((end_of_row Upper, pos 1) ∷ []) (at_least (negsuc 1) (negsuc 6))) (at_least (negsuc 1) (negsuc 6))
unfolding forms_of row_shape gcd gcd_of lowest
known_weaker =
    derives one_column [] 64 [] [] (lin (pos 1) ((end_of_row Upper, pos 1) ∷ []) (at_least (negsuc 1) (negsuc 6)) ∷ []) (at_least (negsuc 1) (negsuc 6)) (weaker_right, tt) (inl refl)

pub stronger : (goal : Ineq) → Derives one_column [] (summed ((end_of_row Upper, pos 1) ∷ []) (at_least (negsuc 1) (negsuc 1))) goal → ⊥
unfolding forms_of row_shape gcd gcd_of lowest
stronger goal = refuted one_column [] (lin (pos 1) ((end_of_row Upper, pos 1) ∷ []) (at_least (negsuc 1) (negsuc 1))) [] goal (λ r. omega (arith, ints, r.right))

pub magnitudes_added : (goal : Ineq) → Derives infeasible [] (opposite_ends (pos (2 ^ 125))) goal → ⊥
unfolding forms_of row_shape gcd gcd_of lowest
magnitudes_added goal =
    refuted infeasible [] (lin (pos 1) ((end_of_row Lower, pos (2 ^ 125)) ∷ (end_of_row Upper, pos (2 ^ 125)) ∷ []) nothing_said) [] goal
    (λ r. omega (arith, r.narrow_left 0))

-- ---- cases

-- a second step that is not right
second_refuted : (m : Model) (first layer : Layer) (goal : Ineq) → (IsRightIn m [] (ProvesInside m [] 64) [] (claim_in first ∷ []) layer → ⊥) → Derives m [] (derivation (first ∷ layer ∷ [])) goal → ⊥
second_refuted m first layer goal wrong d = wrong ((derived m [] (first ∷ layer ∷ []) goal).0 d).0.1.0

-- cases that are not right
split_refuted : (m : Model) (s : Split) (goal : Ineq) → (SplitIsRight m (DerivesWithin m [] 63) [] [] s → ⊥) → Derives m [] (derivation (step.Split s ∷ [])) goal → ⊥
unfolding ProvesInside
split_refuted m s goal wrong d = wrong ((derived m [] (step.Split s ∷ []) goal).0 d).0.0

pub wrong_case : (goal : Ineq) → Derives one_column [] one_case_twice goal → ⊥
wrong_case goal =
    let two = (by.Given 0, pos 2) ∷ [] in
    split_refuted one_column (at_one (left_case 0) (left_case 0) at_most_one) goal
    (λ r. let sum = ((derived_within one_column [] 63 (above ((0, pos 1) ∷ []) (pos 1) ∷ []) [] (lin (pos 2) two at_most_one ∷ []) at_most_one).0 r.right).0.0 in
    omega (arith, ints, sum.left 0))

to_nothing : (b : Bool) → pos 2 *ℤ ((if b then pos 1 else pos 0) +ℤ pos 0) +ℤ (pos 1 *ℤ ((if b then negsuc 1 else pos 0) +ℤ pos 0) +ℤ pos 0) ≡ pos 0
to_nothing true = refl
to_nothing false = refl

absurd_right : LinIsRight one_column ((above ((0, pos 1) ∷ []) (pos 1), pos 2) ∷ (at_least (negsuc 1) (negsuc 2), pos 1) ∷ []) (pos 1) (ineq [] (pos 1))
absurd_right = record {
  multipliers = (omega (arith, ints), (omega (arith, ints), tt));
  positive = omega (arith, ints);
  columns = tt;
  left = (λ j. to_nothing (j == 0));
  right = omega (arith, ints);
  narrow_left = (λ j. elim (j == 0) as (λ b. 2 * unsigned_abs ((if b then pos 1 else pos 0) +ℤ pos 0) + (1 * unsigned_abs ((if b then negsuc 1 else pos 0) +ℤ pos 0) + 0) < 2 ^ 127) [ true ↦ omega arith | false ↦ omega arith ]);
  narrow_right = omega arith;
  narrow_terms = tt;
  narrow_rhs = omega arith;
}

pub known_absurd_case : Derives one_column [] absurd_case at_most_one
unfolding ProvesInside forms_of row_shape gcd gcd_of lowest
known_absurd_case =
    let sum = lin (pos 1) ((by.Given 0, pos 2) ∷ (end_of_row Upper, pos 1) ∷ []) (ineq [] (pos 1)) in
    let right : SplitIsRight one_column (DerivesWithin one_column [] 63) [] [] (at_one (left_case 0) (derivation (sum ∷ [])) at_most_one) = record {
      narrow_low = omega arith;
      narrow_high = omega arith;
      columns = (omega arith, tt);
      integer = (refl, tt);
      claim_columns = (omega arith, tt);
      left = left_right 63 0 [] refl;
      right = derives one_column [] 63 (above ((0, pos 1) ∷ []) (pos 1) ∷ []) [] (sum ∷ []) at_most_one (absurd_right, tt) (inr (refl, omega (arith, ints)));
    } in
    derives one_column [] 64 [] [] (step.Split (at_one (left_case 0) (derivation (sum ∷ [])) at_most_one) ∷ []) at_most_one (right, tt) (inl refl)

takes : (given : Ineq) → DerivesWithin one_column [] 63 (given ∷ []) (at_most_one ∷ []) (out-Derivation (taken (by.Step 0))).steps at_most_one
takes given = derives one_column [] 63 (given ∷ []) (at_most_one ∷ []) (lin (pos 1) ((by.Step 0, pos 1) ∷ []) at_most_one ∷ []) at_most_one (once_right, tt) (inl refl)

pub known_claim_before : Derives one_column [] claim_before at_most_one
unfolding ProvesInside forms_of row_shape gcd gcd_of lowest
known_claim_before =
    let right : SplitIsRight one_column (DerivesWithin one_column [] 63) [] (at_most_one ∷ []) (at_one (taken (by.Step 0)) (taken (by.Step 0)) at_most_one) = record {
      narrow_low = omega arith;
      narrow_high = omega arith;
      columns = (omega arith, tt);
      integer = (refl, tt);
      claim_columns = (omega arith, tt);
      left = takes (below ((0, pos 1) ∷ []) (pos 1));
      right = takes (above ((0, pos 1) ∷ []) (pos 1));
    } in
    derives one_column [] 64 [] [] (round (pos 2) (end_of_row Upper) at_most_one ∷ step.Split (at_one (taken (by.Step 0)) (taken (by.Step 0)) at_most_one) ∷ []) at_most_one
    (rounded_right one_column (at_least (negsuc 1) (negsuc 2)) (pos 2) (omega (arith, ints)) refl (refl, tt), (right, tt))
    (inl refl)

pub claim_of_a_branch : (goal : Ineq) → Derives one_column [] (after_cases (by.Step 1)) goal → ⊥
claim_of_a_branch goal = second_refuted one_column (step.Split (cases 0 (left_case 0))) (lin (pos 1) ((by.Step 1, pos 1) ∷ []) at_most_one) goal (λ r. r)

pub given_of_a_branch : (goal : Ineq) → Derives one_column [] (after_cases (by.Given 0)) goal → ⊥
given_of_a_branch goal = second_refuted one_column (step.Split (cases 0 (left_case 0))) (lin (pos 1) ((by.Given 0, pos 1) ∷ []) at_most_one) goal (λ r. r)

pub over_continuous_cases : (goal : Ineq) → Derives two_columns [] continuous_cases goal → ⊥
over_continuous_cases goal =
    split_refuted two_columns (split ((1, pos 1) ∷ []) (pos 0) (summed [] nothing_said) (summed [] nothing_said) nothing_said) goal (λ r. false≢true r.integer.0)

pub known_cases_below : Derives one_column [] (cases_at (greatest -ℤ pos 1)) nothing_said
unfolding ProvesInside
known_cases_below =
    let s = split ((0, pos 1) ∷ []) (greatest -ℤ pos 1) (summed [] nothing_said) (summed [] nothing_said) nothing_said in
    let inner : (given : Ineq) → DerivesWithin one_column [] 63 (given ∷ []) [] (out-Derivation (summed [] nothing_said)).steps nothing_said =
    λ given. derives one_column [] 63 (given ∷ []) [] (lin (pos 1) [] nothing_said ∷ []) nothing_said (empty_right one_column, tt) (inl refl) in
    let right : SplitIsRight one_column (DerivesWithin one_column [] 63) [] [] s = record {
      narrow_low = omega arith;
      narrow_high = omega arith;
      columns = (omega arith, tt);
      integer = (refl, tt);
      claim_columns = tt;
      left = inner (below ((0, pos 1) ∷ []) (greatest -ℤ pos 1));
      right = inner (above ((0, pos 1) ∷ []) (greatest -ℤ pos 1));
    } in
    derives one_column [] 64 [] [] (step.Split s ∷ []) nothing_said (right, tt) (inl refl)

pub wide_case : (goal : Ineq) → Derives one_column [] (cases_at greatest) goal → ⊥
wide_case goal =
    split_refuted one_column (split ((0, pos 1) ∷ []) greatest (summed [] nothing_said) (summed [] nothing_said) nothing_said) goal (λ r. omega (arith, r.narrow_high))

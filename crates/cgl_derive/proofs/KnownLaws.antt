-- What is right of known derivations.
use Rattle.std.proofs.Common.{◌≡◌, ◌⊎◌, ℕ, zero, suc, ℤ, pos, negsuc, ◌+◌, ◌*◌, ◌<◌, ◌≤◌, ◌==◌, Bool, List, [], ◌∷◌, ◌++◌, length, Option, Some, true, false, refl, sym, ap, subst, inl, inr, arith, length-append}
use Rattle.std.specs.Prelude.{◌+ℤ◌, ◌*ℤ◌, ◌^◌, unsigned_abs, slice_get, if◌then◌else◌}
use Rattle.std.proofs.lemmas.Int.{ints}
use Rattle.std.proofs.lemmas.Bool.{false≢true}
use Rattle.cgl_num.specs.Gcd.{gcd, gcd_of}
use Rattle.cgl_num.specs.Fraction.{lowest}
use Rattle.cgl_model.specs.declared.linear.Ineq.{Ineq}
use Rattle.cgl_model.specs.declared.mip.Model.{Model}
use Rattle.cgl_model.specs.declared.places.End.TheVariants.{Lower, Upper}
use Rattle.cgl_model.specs.IntegerForm.{forms_of, row_shape}
use Rattle.cgl_derive.specs.declared.step.Lin.{Lin}
use Rattle.cgl_derive.specs.declared.step.Ref.TheVariants as by
use Rattle.cgl_derive.specs.declared.step.Step.TheOpen as step
use Rattle.cgl_derive.specs.declared.step.Split.{out-Split}
use Rattle.cgl_derive.specs.declared.step.Derivation.{Derivation, out-Derivation}
use Rattle.cgl_derive.specs.Derives.{Layer, onto_parts, IsRightLin, coefficient, below, above, IsRightIn, DerivesWithin, Derives, IsAbsurd, SplitIsRight, LinIsRight}
use Rattle.cgl_derive.proofs.RoundingLaws.{rounded_right}
use Rattle.cgl_derive.specs.Layers.{rolled, derivation, ProvesInside, AreLayersRight, LayersEndIn}
use Rattle.cgl_derive.proofs.LayerLaws.{derived, derived_within}
use Rattle.cgl_derive.specs.KnownDerivations.{one_column, two_columns, infeasible, ineq, at_least, at_most_one, end_of_row, lin, round, cases, halved, by_three, too_great, other_cases, other_end, summed, too_wide, other_column, left_case, by_cases, nested, over_continuous, contradiction, repeated_column}

pub derives : (m : Model) (shared : List Ineq) (n : ℕ) (givens claims : List Ineq) (layers : List Layer) (goal : Ineq) → AreLayersRight m shared (ProvesInside m shared n) givens claims layers → LayersEndIn layers goal
    → DerivesWithin m shared n givens claims (rolled layers) goal
derives m shared n givens claims layers goal right end = (derived_within m shared n givens claims layers goal).1 (right, end)

-- a first step that is not right
pub refuted : (m : Model) (shared : List Ineq) (layer : Layer) (layers : List Layer) (goal : Ineq) → (IsRightIn m shared (ProvesInside m shared 64) [] [] layer → ⊥) → Derives m shared (derivation (layer ∷ layers)) goal → ⊥
refuted m shared layer layers goal wrong d = wrong ((derived m shared (layer ∷ layers) goal).0 d).0.0

-- ---- over one column

pub known_rounded : Derives one_column [] halved at_most_one
unfolding forms_of row_shape gcd gcd_of lowest
known_rounded =
    derives one_column [] 64 [] [] (round (pos 2) (end_of_row Upper) at_most_one ∷ []) at_most_one
    ((rounded_right one_column (at_least (negsuc 1) (negsuc 2)) (pos 2) (omega (arith, ints)) refl (refl, tt), tt)) (inl refl)

twice : (z : ℤ) → pos 2 *ℤ z +ℤ pos 0 ≡ pos 2 *ℤ z
twice z = omega (arith, ints)

two_times : (b : Bool) → pos 2 *ℤ ((if b then pos 1 else pos 0) +ℤ pos 0) +ℤ (pos 2 *ℤ ((if b then negsuc 1 else pos 0) +ℤ pos 0) +ℤ pos 0) ≡ pos 2 *ℤ ((if b then negsuc 0 else pos 0) +ℤ pos 0)
two_times true = refl
two_times false = refl

below_right : LinIsRight one_column ((below ((0, pos 1) ∷ []) (pos 1), pos 2) ∷ []) (pos 2) at_most_one
below_right = record {
  multipliers = (omega (arith, ints), tt);
  positive = omega (arith, ints);
  columns = (omega arith, tt);
  left = (λ j. twice (coefficient j at_most_one.terms));
  right = omega (arith, ints);
  narrow_left = (λ j. elim (j == 0) as (λ b. 2 * unsigned_abs ((if b then negsuc 0 else pos 0) +ℤ pos 0) + 0 < 2 ^ 127) [ true ↦ omega arith | false ↦ omega arith ]);
  narrow_right = omega arith;
  narrow_terms = (omega arith, tt);
  narrow_rhs = omega arith;
}

above_right : LinIsRight one_column ((above ((0, pos 1) ∷ []) (pos 1), pos 2) ∷ (at_least (negsuc 1) (negsuc 2), pos 2) ∷ []) (pos 2) at_most_one
above_right = record {
  multipliers = (omega (arith, ints), (omega (arith, ints), tt));
  positive = omega (arith, ints);
  columns = (omega arith, tt);
  left = (λ j. two_times (j == 0));
  right = omega (arith, ints);
  narrow_left = (λ j. elim (j == 0) as (λ b. 2 * unsigned_abs ((if b then pos 1 else pos 0) +ℤ pos 0) + (2 * unsigned_abs ((if b then negsuc 1 else pos 0) +ℤ pos 0) + 0) < 2 ^ 127) [ true ↦ omega arith | false ↦ omega arith ]);
  narrow_right = omega arith;
  narrow_terms = (omega arith, tt);
  narrow_rhs = omega arith;
}

-- the last given
last_given : (givens : List Ineq) (c : Ineq) (d : ℕ) → length givens ≡ d → slice_get (givens ++ c ∷ []) d ≡ Some c
last_given [] c d e = ap (slice_get (c ∷ [])) (sym e)
last_given (g ∷ givens) c zero e = absurd (omega (arith, e))
last_given (g ∷ givens) c (suc d) e = last_given givens c d (omega (arith, e))

abbrev below_one : Ineq
below_one = below ((0, pos 1) ∷ []) (pos 1)

abbrev above_one : Ineq
above_one = above ((0, pos 1) ∷ []) (pos 1)

pub left_right : (n d : ℕ) (givens : List Ineq) → length givens ≡ d → DerivesWithin one_column [] n (givens ++ below_one ∷ []) [] (out-Derivation (left_case d)).steps at_most_one
left_right n d givens e =
    let sum : Lin = record { refs = (by.Given d, pos 2) ∷ []; q = pos 2; claim = at_most_one } in
    let P : Option Ineq → Type 0 = λ o. IsRightLin one_column (onto_parts o (pos 2) (Some [])) sum in
    derives one_column [] n (givens ++ below_one ∷ []) [] (step.Lin sum ∷ []) at_most_one (subst P (sym (last_given givens below_one d e)) below_right, tt) (inl refl)

right_right : (n d : ℕ) (givens : List Ineq) (left : Derivation) → length givens ≡ d → DerivesWithin one_column [] n (givens ++ above_one ∷ []) [] (out-Derivation (out-Split (cases d left)).right).steps at_most_one
unfolding forms_of row_shape gcd gcd_of lowest
right_right n d givens left e =
    let sum : Lin = record { refs = (by.Given d, pos 2) ∷ (end_of_row Upper, pos 2) ∷ []; q = pos 2; claim = at_most_one } in
    let P : Option Ineq → Type 0 = λ o. IsRightLin one_column (onto_parts o (pos 2) (Some ((at_least (negsuc 1) (negsuc 2), pos 2) ∷ []))) sum in
    derives one_column [] n (givens ++ above_one ∷ []) [] (step.Lin sum ∷ []) at_most_one (subst P (sym (last_given givens above_one d e)) above_right, tt) (inl refl)

-- with a left list that proves the claim, a level below
cases_right : (n d : ℕ) (givens : List Ineq) (left : Derivation) → length givens ≡ d → DerivesWithin one_column [] n (givens ++ below_one ∷ []) [] (out-Derivation left).steps at_most_one
    → DerivesWithin one_column [] (suc n) givens [] (rolled (step.Split (cases d left) ∷ [])) at_most_one
unfolding ProvesInside
cases_right n d givens left e proved =
    let right : SplitIsRight one_column (ProvesInside one_column [] (suc n)) givens [] (cases d left) = record {
      narrow_low = omega arith;
      narrow_high = omega arith;
      columns = (omega arith, tt);
      integer = (refl, tt);
      claim_columns = (omega arith, tt);
      left = proved;
      right = right_right n d givens left e;
    } in
    derives one_column [] (suc n) givens [] (step.Split (cases d left) ∷ []) at_most_one (right, tt) (inl refl)

pub known_cases : Derives one_column [] by_cases at_most_one
known_cases = cases_right 63 0 [] (left_case 0) refl (left_right 63 0 [] refl)

pub branch_end : (goal : Ineq) → Derives one_column [] other_end goal → ⊥
unfolding ProvesInside
branch_end goal d =
    let split = ((derived one_column [] (step.Split other_cases ∷ []) goal).0 d).0.0 in
    wrong ((derived_within one_column [] 63 (above_one ∷ []) [] (lin (pos 1) ((by.Given 0, pos 1) ∷ []) (at_least (pos 1) (pos 2)) ∷ []) at_most_one).0 split.right).1
  where
    wrong : (at_least (pos 1) (pos 2) ≡ at_most_one) ⊎ IsAbsurd (at_least (pos 1) (pos 2)) → ⊥
    wrong (inl same) = let rhs : pos 2 ≡ negsuc 0 = ap (λ c. c.rhs) same in omega (arith, ints, rhs)
    wrong (inr absurd_end) = let count : 1 ≡ 0 = ap length absurd_end.0 in omega (arith, count)

longer : (givens : List Ineq) (c : Ineq) (d : ℕ) → length givens ≡ d → length (givens ++ c ∷ []) ≡ d + 1
longer givens c d e = simp length-append (omega (arith, e))

nested_right : (n k d : ℕ) (givens : List Ineq) → n < k → length givens ≡ d → DerivesWithin one_column [] k givens [] (out-Derivation (nested n d)).steps at_most_one
unfolding nested
nested_right n zero d givens h e = absurd (omega arith)
nested_right zero (suc k) d givens h e = cases_right k d givens (left_case d) e (left_right k d givens e)
nested_right (suc n) (suc k) d givens h e = cases_right k d givens (nested n (d + 1)) e (nested_right n k (d + 1) (givens ++ below_one ∷ []) (omega arith) (longer givens below_one d e))

pub known_deep : Derives one_column [] (nested 63 0) at_most_one
known_deep = nested_right 63 64 0 [] (omega arith) refl

left_list : (k d : ℕ) (givens : List Ineq) (left : Derivation) (goal : Ineq) → DerivesWithin one_column [] k givens [] (rolled (step.Split (cases d left) ∷ [])) goal
    → ProvesInside one_column [] k (givens ++ below_one ∷ []) [] (out-Derivation left).steps at_most_one
left_list k d givens left goal h = ((derived_within one_column [] k givens [] (step.Split (cases d left) ∷ []) goal).0 h).0.0.left

nested_wrong : (n k d : ℕ) (givens : List Ineq) (goal : Ineq) → k ≤ n → DerivesWithin one_column [] k givens [] (out-Derivation (nested n d)).steps goal → ⊥
unfolding nested ProvesInside
nested_wrong zero zero d givens goal l h = left_list 0 d givens (left_case d) goal h
nested_wrong (suc n) zero d givens goal l h = left_list 0 d givens (nested n (d + 1)) goal h
nested_wrong zero (suc k) d givens goal l h = absurd (omega arith)
nested_wrong (suc n) (suc k) d givens goal l h = nested_wrong n k (d + 1) (givens ++ below_one ∷ []) at_most_one (omega arith) (left_list (suc k) d givens (nested n (d + 1)) goal h)

pub too_deep : (goal : Ineq) → Derives one_column [] (nested 64 0) goal → ⊥
too_deep goal h = nested_wrong 64 64 0 [] goal (omega arith) h

once : (z : ℤ) → pos 1 *ℤ z +ℤ pos 0 ≡ pos 1 *ℤ z
once z = omega (arith, ints)

pub once_right : LinIsRight one_column ((at_most_one, pos 1) ∷ []) (pos 1) at_most_one
once_right = record {
  multipliers = (omega (arith, ints), tt);
  positive = omega (arith, ints);
  columns = (omega arith, tt);
  left = (λ j. once (coefficient j at_most_one.terms));
  right = omega (arith, ints);
  narrow_left = (λ j. elim (j == 0) as (λ b. 1 * unsigned_abs ((if b then negsuc 0 else pos 0) +ℤ pos 0) + 0 < 2 ^ 127) [ true ↦ omega arith | false ↦ omega arith ]);
  narrow_right = omega arith;
  narrow_terms = (omega arith, tt);
  narrow_rhs = omega arith;
}

pub known_shared : Derives one_column (at_most_one ∷ []) (summed ((by.Shared 0, pos 1) ∷ []) at_most_one) at_most_one
known_shared = derives one_column (at_most_one ∷ []) 64 [] [] (lin (pos 1) ((by.Shared 0, pos 1) ∷ []) at_most_one ∷ []) at_most_one ((once_right, tt)) (inl refl)

pub no_steps : (goal : Ineq) → Derives one_column [] (derivation []) goal → ⊥
no_steps goal d = ((derived one_column [] [] goal).0 d).1

pub other_divisor : (goal : Ineq) → Derives one_column [] by_three goal → ⊥
unfolding forms_of row_shape gcd gcd_of lowest
other_divisor goal = refuted one_column [] (round (pos 3) (end_of_row Upper) at_most_one) [] goal (λ r. let number : negsuc 1 ≡ negsuc 2 = r.terms.0.1 in omega (arith, ints, number))

pub other_claim : (goal : Ineq) → Derives one_column [] too_great goal → ⊥
unfolding forms_of row_shape gcd gcd_of lowest
other_claim goal = refuted one_column [] (round (pos 2) (end_of_row Upper) (at_least (negsuc 0) (pos 0))) [] goal (λ r. omega (arith, ints, r.least))

pub no_step : (goal : Ineq) → Derives one_column [] (summed ((by.Step 0, pos 1) ∷ []) at_most_one) goal → ⊥
no_step goal = refuted one_column [] (lin (pos 1) ((by.Step 0, pos 1) ∷ []) at_most_one) [] goal (λ r. r)

pub no_given : (goal : Ineq) → Derives one_column [] (summed ((by.Given 0, pos 1) ∷ []) at_most_one) goal → ⊥
no_given goal = refuted one_column [] (lin (pos 1) ((by.Given 0, pos 1) ∷ []) at_most_one) [] goal (λ r. r)

pub no_shared : (goal : Ineq) → Derives one_column [] (summed ((by.Shared 0, pos 1) ∷ []) at_most_one) goal → ⊥
no_shared goal = refuted one_column [] (lin (pos 1) ((by.Shared 0, pos 1) ∷ []) at_most_one) [] goal (λ r. r)

pub negative_multiplier : (goal : Ineq) → Derives one_column [] (summed ((end_of_row Upper, negsuc 0) ∷ []) at_most_one) goal → ⊥
unfolding forms_of row_shape gcd gcd_of lowest
negative_multiplier goal = refuted one_column [] (lin (pos 1) ((end_of_row Upper, negsuc 0) ∷ []) at_most_one) [] goal (λ r. omega (arith, ints, r.multipliers.0))

pub great_multiplier : (goal : Ineq) → Derives one_column [] (summed ((end_of_row Upper, pos (2 ^ 126)) ∷ []) at_most_one) goal → ⊥
unfolding forms_of row_shape gcd gcd_of lowest
great_multiplier goal = refuted one_column [] (lin (pos 1) ((end_of_row Upper, pos (2 ^ 126)) ∷ []) at_most_one) [] goal (λ r. omega (arith, r.narrow_left 0))

pub great_sum : (goal : Ineq) → Derives one_column [] too_wide goal → ⊥
unfolding forms_of row_shape gcd gcd_of lowest
great_sum goal = refuted one_column [] (lin (pos (2 ^ 126)) ((end_of_row Upper, pos (2 ^ 126)) ∷ []) (at_least (negsuc 1) (negsuc 2))) [] goal (λ r. omega (arith, r.narrow_left 0))

pub column_beyond : (goal : Ineq) → Derives one_column [] (summed [] other_column) goal → ⊥
column_beyond goal = refuted one_column [] (lin (pos 1) [] other_column) [] goal (λ r. omega (arith, r.columns.0))

pub shared_beyond : (goal : Ineq) → Derives one_column (other_column ∷ []) (summed ((by.Shared 0, pos 1) ∷ []) other_column) goal → ⊥
shared_beyond goal = refuted one_column (other_column ∷ []) (lin (pos 1) ((by.Shared 0, pos 1) ∷ []) other_column) [] goal (λ r. omega (arith, r.columns.0))

-- ---- over two columns

pub continuous_column : (goal : Ineq) → Derives two_columns [] over_continuous goal → ⊥
unfolding forms_of row_shape gcd gcd_of lowest
continuous_column goal =
    let end = ineq ((0, negsuc 1) ∷ (1, pos 1) ∷ []) (negsuc 2) in
    refuted two_columns [] (round (pos 1) (end_of_row Upper) end) [] goal (λ r. false≢true r.integer.1.0)

-- ---- of the model without a point

opposite : (b : Bool) → pos 1 *ℤ ((if b then pos 1 else pos 0) +ℤ pos 0) +ℤ (pos 1 *ℤ ((if b then negsuc 0 else pos 0) +ℤ pos 0) +ℤ pos 0) ≡ pos 0
opposite true = refl
opposite false = refl

sum_right : LinIsRight infeasible ((at_least (pos 1) (pos 1), pos 1) ∷ (at_least (negsuc 0) (pos 0), pos 1) ∷ []) (pos 1) (ineq [] (pos 1))
sum_right = record {
  multipliers = (omega (arith, ints), (omega (arith, ints), tt));
  positive = omega (arith, ints);
  columns = tt;
  left = (λ j. opposite (j == 0));
  right = omega (arith, ints);
  narrow_left = (λ j. elim (j == 0) as (λ b. 1 * unsigned_abs ((if b then pos 1 else pos 0) +ℤ pos 0) + (1 * unsigned_abs ((if b then negsuc 0 else pos 0) +ℤ pos 0) + 0) < 2 ^ 127) [ true ↦ omega arith | false ↦ omega arith ]);
  narrow_right = omega arith;
  narrow_terms = tt;
  narrow_rhs = omega arith;
}

pub each_goal : (goal : Ineq) → Derives infeasible [] contradiction goal
unfolding forms_of row_shape gcd gcd_of lowest
each_goal goal =
    derives infeasible [] 64 [] []
    (round (pos 2) (end_of_row Lower) (at_least (pos 1) (pos 1))
    ∷ round (pos 2) (end_of_row Upper) (at_least (negsuc 0) (pos 0))
    ∷ lin (pos 1) ((by.Step 0, pos 1) ∷ (by.Step 1, pos 1) ∷ []) (ineq [] (pos 1))
    ∷ [])
    goal
    ((
      rounded_right infeasible (at_least (pos 2) (pos 1)) (pos 2) (omega (arith, ints)) refl (refl, tt),
      (rounded_right infeasible (at_least (negsuc 1) (negsuc 0)) (pos 2) (omega (arith, ints)) refl (refl, tt), (sum_right, tt)),
    ))
    (inr (refl, omega (arith, ints)))

-- ---- repeated columns

pub first_term : LinIsRight one_column ((at_least (pos 1) (pos 1), pos 1) ∷ []) (pos 1) repeated_column → ⊥
first_term r = omega (arith, ints, r.left 0)

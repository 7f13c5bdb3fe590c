-- A weighted sum has no failure exactly where it is right.
use Rattle.std.proofs.Common.{◌≡◌, ◌↔◌, ℕ, ℤ, pos, ◌*◌, ◌<◌, ◌≤◌, ◌==◌, ◌^◌, List, [], ◌∷◌, length, Option, Some, None, IfSome, Bool, true, false, not, ◌||◌, refl, sym, ap, ◌∙◌, subst, ⊎_elim, arith}
use Rattle.std.specs.Prelude.{◌+ℤ◌, ◌*ℤ◌, ◌≤ℤ◌, ◌<ℤ◌, unsigned_abs, int_lt, if◌then◌else◌}
use Rattle.std.specs.List.{AllByRecursion, list_any}
use Rattle.std.specs.Ordering.{int_eq}
use Rattle.std.proofs.Math.IntN.{*ℤ-zero}
use Rattle.std.proofs.lemmas.Int.{ints}
use Rattle.std.proofs.lemmas.Bool.Decides.{nat_tests}
use Rattle.std.proofs.lemmas.Bool.{cases_order}
use Rattle.cgl_model.specs.declared.linear.Ineq.{Ineq}
use Rattle.cgl_model.specs.declared.mip.Model.{Model}
use Rattle.cgl_model.specs.Inequality.{Term}
use Rattle.cgl_derive.specs.declared.step.Ref.{Ref}
use Rattle.cgl_derive.specs.declared.step.Lin.{Lin}
use Rattle.cgl_derive.specs.Derives.{Part, AreColumns, coefficient, weighted, magnitudes, onto_parts, parts_of, LinIsRight, IsRightLin}
use Rattle.cgl_derive.specs.Totals.{is_wide, is_wide_claim, nothing, plus}
use Rattle.cgl_check.specs.FirstFailure.{sum_failure, lin_failure, wide, bad_sum, bad_ref}
use Rattle.cgl_check.specs.Tests.{all_below, are_columns, are_narrow_sums, is_claimed, reaches}
use Rattle.cgl_check.proofs.Ground.{NoneBeyond}
use Rattle.cgl_check.proofs.TestLaws.{not_false, not_true, and_true, true_and, or_false, false_or, fails_none, none_fails, columns_hold, columns_pass, reaches_not, not_reaches, narrow_terms, terms_narrow, below_holds, below_passes, int_same, same_int, int_not_less, not_less_int, not_of_false, not_of_true, above_zero, zero_above, narrow_product, product_narrow}

pub by_size : {A : Type 0} (j n : ℕ) → (j < n → A) → (n ≤ j → A) → A
by_size j n f g = ⊎_elim (λ e. g (omega (arith, e))) (λ o. ⊎_elim f (λ l. g (omega (arith, l))) o) (cases_order j n)

-- ---- columns past the model's

abbrev pub PartsBelow : ℕ → List Part → Type 0
PartsBelow n parts = AllByRecursion (λ part. AllByRecursion (λ t. t.0 < n) part.0.terms) parts

weighted_past : NoneBeyond → (n j : ℕ) (parts : List Part) → n ≤ j → PartsBelow n parts → weighted (λ c. coefficient j c.terms) parts ≡ pos 0
weighted_past beyond n j [] h all = refl
weighted_past beyond n j (part ∷ parts) h all =
    let here = ap (λ z. part.1 *ℤ z) (beyond part.0.terms n j all.0 h) ∙ *ℤ-zero part.1 in
    let rest = weighted_past beyond n j parts h all.1 in
    omega (arith, ints, here, rest)

pub magnitudes_past : NoneBeyond → (n j : ℕ) (parts : List Part) → n ≤ j → PartsBelow n parts → magnitudes (λ c. coefficient j c.terms) parts ≡ 0
magnitudes_past beyond n j [] h all = refl
magnitudes_past beyond n j (part ∷ parts) h all =
    let here : unsigned_abs part.1 * unsigned_abs (coefficient j part.0.terms) ≡ unsigned_abs part.1 * 0 = ap (λ z. unsigned_abs part.1 * unsigned_abs z) (beyond part.0.terms n j all.0 h) in
    let rest = magnitudes_past beyond n j parts h all.1 in
    omega (arith, here, rest)

-- ---- the parts that references mean

onto_all : (P : Part → Type 0) (o : Option Ineq) (b : ℤ) (rest : Option (List Part)) (parts : List Part) → ((c : Ineq) → o ≡ Some c → P (c, b))
    → ((ps : List Part) → rest ≡ Some ps → AllByRecursion P ps) → onto_parts o b rest ≡ Some parts → AllByRecursion P parts
onto_all P None b rest parts h hs e = cc
onto_all P (Some c) b None parts h hs e = cc
onto_all P (Some c) b (Some ps) parts h hs e = let Q : Option (List Part) → Type 0 = λ o. IfSome o (AllByRecursion P) in subst Q e (h c refl, hs ps refl)

pub parts_below : (n : ℕ) (means : Ref → Option Ineq) → ((r : Ref) (c : Ineq) → means r ≡ Some c → AllByRecursion (λ t. t.0 < n) c.terms) → (refs : List (Ref × ℤ)) (parts : List Part)
    → parts_of means refs ≡ Some parts → PartsBelow n parts
parts_below n means h [] parts e = let Q : Option (List Part) → Type 0 = λ o. IfSome o (PartsBelow n) in subst Q e tt
parts_below n means h (r ∷ refs) parts e = onto_all (λ part. AllByRecursion (λ t. t.0 < n) part.0.terms) (means r.0) r.1 (parts_of means refs) parts (h r.0) (parts_below n means h refs) e

abbrev AreMultipliers : List Part → Type 0
AreMultipliers parts = AllByRecursion (λ part. pos 0 ≤ℤ part.1) parts

parts_positive : (means : Ref → Option Ineq) (refs : List (Ref × ℤ)) (parts : List Part) → list_any (λ r. int_lt r.1 (pos 0)) refs ≡ false → parts_of means refs ≡ Some parts → AreMultipliers parts
parts_positive means [] parts none e = let Q : Option (List Part) → Type 0 = λ o. IfSome o AreMultipliers in subst Q e tt
parts_positive means (r ∷ refs) parts none e =
    let both = or_false (int_lt r.1 (pos 0)) (list_any (λ s. int_lt s.1 (pos 0)) refs) none in
    onto_all (λ part. pos 0 ≤ℤ part.1) (means r.0) r.1 (parts_of means refs) parts (λ c is. int_not_less r.1 (pos 0) both.0) (λ ps is. parts_positive means refs ps both.1 is) e

onto_head : (o : Option Ineq) (b : ℤ) (rest : Option (List Part)) (parts : List Part) → onto_parts o b rest ≡ Some parts → AreMultipliers parts
    → (pos 0 ≤ℤ b) × ((ps : List Part) × (rest ≡ Some ps) × AreMultipliers ps)
onto_head None b rest parts e all = cc
onto_head (Some c) b None parts e all = cc
onto_head (Some c) b (Some ps) parts e all =
    let Q : Option (List Part) → Type 0 = λ o. IfSome o AreMultipliers in
    let whole : AreMultipliers ((c, b) ∷ ps) = subst Q (sym e) all in
    (whole.0, (ps, refl, whole.1))

positive_parts : (means : Ref → Option Ineq) (refs : List (Ref × ℤ)) (parts : List Part) → parts_of means refs ≡ Some parts → AreMultipliers parts → list_any (λ r. int_lt r.1 (pos 0)) refs ≡ false
positive_parts means [] parts e all = refl
positive_parts means (r ∷ refs) parts e all =
    let head = onto_head (means r.0) r.1 (parts_of means refs) parts e all in
    false_or _ _ (not_less_int r.1 (pos 0) head.0) (positive_parts means refs head.1.0 head.1.1 head.1.2)

-- ---- one sum

-- the two ways to tell that the left sides agree
pub claimed_holds : NoneBeyond → (m : Model) (parts : List Part) (q : ℤ) (claim : Ineq) → is_claimed m parts q claim ≡ true → PartsBelow (length m.cols) parts → AreColumns m claim.terms
    → ((j : ℕ) → weighted (λ c. coefficient j c.terms) parts ≡ q *ℤ coefficient j claim.terms) × ((q *ℤ claim.rhs) ≤ℤ weighted (λ c. c.rhs) parts)
claimed_holds beyond m parts q claim e below columns =
    let test : ℕ → Bool = λ j. int_eq (weighted (λ c. coefficient j c.terms) parts) (q *ℤ coefficient j claim.terms) in
    let both = and_true (all_below (length m.cols) test) (not (int_lt (weighted (λ c. c.rhs) parts) (q *ℤ claim.rhs))) e in (
      (λ j. by_size j (length m.cols)
          (λ l. int_same _ _ (below_holds (length m.cols) test both.0 j l))
          (λ l. weighted_past beyond (length m.cols) j parts l below ∙ sym (ap (λ z. q *ℤ z) (beyond claim.terms (length m.cols) j columns l) ∙ *ℤ-zero q))),
      int_not_less _ _ (not_true _ both.1),
    )

pub sum_right : NoneBeyond → (m : Model) (lin : Lin) (o : Option (List Part)) → sum_failure m lin o ≡ None → AreColumns m lin.claim.terms → pos 0 <ℤ lin.q
    → ((parts : List Part) → o ≡ Some parts → PartsBelow (length m.cols) parts) → ((parts : List Part) → o ≡ Some parts → AreMultipliers parts) → IsRightLin m o lin
sum_right beyond m lin None e columns positive below multipliers = cc
sum_right beyond m lin (Some parts) e columns positive below multipliers =
    let claim = lin.claim in
    let first = fails_none (not (are_narrow_sums m parts) || is_wide_claim lin.q claim) wide _ e in
    let second = fails_none (not (is_claimed m parts lin.q claim)) bad_sum None first.1 in
    let wides = or_false (not (are_narrow_sums m parts)) (is_wide_claim lin.q claim) first.0 in
    let test : ℕ → Bool = λ j. not (reaches (magnitudes (λ c. coefficient j c.terms) parts)) in
    let sums = and_true (all_below (length m.cols) test) (not (reaches (magnitudes (λ c. c.rhs) parts))) (not_false _ wides.0) in
    let numbers = or_false (list_any (λ t. is_wide (plus lin.q t.1 nothing)) claim.terms) (is_wide (plus lin.q claim.rhs nothing)) wides.1 in
    let claimed = claimed_holds beyond m parts lin.q claim (not_false _ second.0) (below parts refl) columns in
    record {
      multipliers = multipliers parts refl;
      positive = positive;
      columns = columns;
      left = claimed.0;
      right = claimed.1;
      narrow_left = (λ j. by_size j (length m.cols)
          (λ l. reaches_not _ (not_true _ (below_holds (length m.cols) test sums.0 j l)))
          (λ l. subst (λ (n : ℕ). n < 2 ^ 127) (sym (magnitudes_past beyond (length m.cols) j parts l (below parts refl))) (omega arith)));
      narrow_right = reaches_not _ (not_true _ sums.1);
      narrow_terms = narrow_terms lin.q claim.terms numbers.0;
      narrow_rhs = narrow_product lin.q claim.rhs numbers.1;
    }

pub right_sum : (m : Model) (lin : Lin) (o : Option (List Part)) → IsRightLin m o lin → sum_failure m lin o ≡ None
right_sum m lin None right = absurd right
right_sum m lin (Some parts) right =
    none_fails (not (are_narrow_sums m parts) || is_wide_claim lin.q lin.claim) wide _
    (false_or _ _
    (not_of_true _ (true_and _ _ (below_passes (length m.cols) _ (λ j l. not_of_false _ (not_reaches _ (right.narrow_left j)))) (not_of_false _ (not_reaches _ right.narrow_right))))
    (false_or _ _ (terms_narrow lin.q lin.claim.terms right.narrow_terms) (product_narrow lin.q lin.claim.rhs right.narrow_rhs)))
    (none_fails (not (is_claimed m parts lin.q lin.claim)) bad_sum None
    (not_of_true _ (true_and _ _ (below_passes (length m.cols) _ (λ j l. same_int _ _ (right.left j))) (not_of_false _ (not_less_int _ _ right.right)))) refl)

right_parts : (m : Model) (lin : Lin) (o : Option (List Part)) → IsRightLin m o lin → (parts : List Part) × (o ≡ Some parts) × LinIsRight m parts lin.q lin.claim
right_parts m lin None right = absurd right
right_parts m lin (Some parts) right = (parts, refl, right)

pub lin_exact : NoneBeyond → (m : Model) (means : Ref → Option Ineq) (lin : Lin) → ((r : Ref) (c : Ineq) → means r ≡ Some c → AreColumns m c.terms)
    → (lin_failure m means lin ≡ None) ↔ IsRightLin m (parts_of means lin.refs) lin
lin_exact beyond m means lin below = (
  (λ e.
      let first = fails_none (not (are_columns m lin.claim.terms)) bad_ref _ e in
      let second = fails_none (list_any (λ r. int_lt r.1 (pos 0)) lin.refs || int_lt lin.q (pos 1)) bad_sum _ first.1 in
      let both = or_false (list_any (λ r. int_lt r.1 (pos 0)) lin.refs) (int_lt lin.q (pos 1)) second.0 in
      sum_right beyond m lin (parts_of means lin.refs) second.1 (columns_hold m lin.claim.terms (not_false _ first.0)) (above_zero lin.q both.1)
      (λ parts is. parts_below (length m.cols) means below lin.refs parts is) (λ parts is. parts_positive means lin.refs parts both.0 is)),
  (λ right.
      let parts = right_parts m lin (parts_of means lin.refs) right in
      none_fails (not (are_columns m lin.claim.terms)) bad_ref _ (not_of_true _ (columns_pass m lin.claim.terms parts.2.columns))
      (none_fails (list_any (λ r. int_lt r.1 (pos 0)) lin.refs || int_lt lin.q (pos 1)) bad_sum _
      (false_or _ _ (positive_parts means lin.refs parts.0 parts.1 parts.2.multipliers) (zero_above lin.q parts.2.positive)) (right_sum m lin (parts_of means lin.refs) right))),
)

-- What the checker of weighted sums rests on.
use Rattle.std.proofs.Common.{◌≡◌, ◌⊎◌, ℕ, zero, suc, ℤ, pos, negsuc, ◌+◌, ◌*◌, ◌<◌, ◌≤◌, ◌==◌, ◌^◌, List, [], ◌∷◌, ◌++◌, take, length, get_or, Option, Some, None, Bool, true, false, not, ◌||◌, replicate, zero-add, refl, sym, ap, ◌∙◌, subst, inl, inr, ⊎_elim, arith}
use Rattle.std.specs.Prelude.{◌+ℤ◌, ◌*ℤ◌, ◌≤ℤ◌, unsigned_abs, int_lt, is_none, unwrap_or, if◌then◌else◌}
use Rattle.std.specs.List.{list_any}
use Rattle.std.proofs.Math.IntN.{neg_ℤ, neg_ℤ-+ℤ, *ℤ_comm}
use Rattle.std.proofs.lemmas.Int.{ints, unsigned_abs-mul}
use Rattle.std.proofs.lemmas.Bool.Decides.{nat_tests}
use Rattle.std.proofs.lemmas.List.{take_more}
use Rattle.cgl_num.specs.IntegerLaws.{neg-*ℤ}
use Rattle.cgl_model.specs.declared.linear.Ineq.{Ineq}
use Rattle.cgl_model.specs.declared.mip.Model.{Model}
use Rattle.cgl_model.specs.IntegerForm.{negated}
use Rattle.cgl_model.specs.Inequality.{Term, AreColumnsBelow}
use Rattle.cgl_model.specs.Rising.{IsCoefficient, IsRising}
use Rattle.cgl_check.specs.LinearIneq.{terms_of}
use Rattle.cgl_derive.specs.declared.step.Lin.{Lin}
use Rattle.cgl_derive.specs.declared.step.Ref.{Ref}
use Rattle.cgl_derive.specs.Derives.{Part, coefficient, weighted, magnitudes, onto_parts, parts_of}
use Rattle.cgl_derive.specs.Totals.{Amount, AreNarrow, Totals, IsSumOf, ProvesClaim, has_column, amount_at, is_wide, is_wide_claim, is_wide_form, is_wide_side, no_totals, nothing, plus, plus_columns, plus_form, plus_side}
use Rattle.cgl_check.specs.FirstFailure.{sum_failure, lin_failure, fails, wide, bad_sum, bad_ref}
use Rattle.cgl_check.specs.Tests.{all_below, are_columns, are_narrow_sums, is_claimed, reaches}
use Rattle.cgl_check.specs.Walk.{parts_in}
use Rattle.cgl_check.proofs.TestLaws.{not_true, not_of_false, same_int, not_less_int, and_true, true_and, or_true, or_false, below_passes, below_holds, not_reaches, reaches_not, if_not, tested}
use Rattle.cgl_check.proofs.Ground.{NoneBeyond}
use Rattle.cgl_check.proofs.LinExact.{PartsBelow, by_size, claimed_holds, magnitudes_past}

-- ---- negated terms

-- the coefficients of negated terms
abbrev pub NegatesCoefficients : Type 0
NegatesCoefficients = (terms : List Term) (j : ℕ) → coefficient j (negated terms) ≡ neg_ℤ (coefficient j terms)

abs_neg : (z : ℤ) → unsigned_abs (neg_ℤ z) ≡ unsigned_abs z
abs_neg (pos zero) = refl
abs_neg (pos (suc n)) = refl
abs_neg (negsuc n) = refl

neg_swap : (a b : ℤ) → neg_ℤ a *ℤ b ≡ a *ℤ neg_ℤ b
neg_swap a b = neg-*ℤ a b ∙ ap neg_ℤ (*ℤ_comm a b) ∙ sym (neg-*ℤ b a) ∙ *ℤ_comm (neg_ℤ b) a

plus_negated : (by a : ℤ) (t : Amount) → plus (neg_ℤ by) a t ≡ plus by (neg_ℤ a) t
plus_negated by a t =
    let P : ℤ → ℕ → Amount = λ z n. record { value = t.value +ℤ z; magnitude = t.magnitude + n } in
    let size : unsigned_abs (neg_ℤ by) * unsigned_abs a ≡ unsigned_abs by * unsigned_abs (neg_ℤ a) = ap (λ n. n * unsigned_abs a) (abs_neg by) ∙ ap (λ n. unsigned_abs by * n) (sym (abs_neg a)) in
    ap (λ z. P z (unsigned_abs (neg_ℤ by) * unsigned_abs a)) (neg_swap by a) ∙ ap (P (by *ℤ neg_ℤ a)) size

columns_negated : NegatesCoefficients → (by : ℤ) (p : List Term) (n : ℕ) (xs : List Amount) → plus_columns (neg_ℤ by) p n xs ≡ plus_columns by (negated p) n xs
columns_negated negates by p n [] = refl
columns_negated negates by p n (x ∷ xs) =
    ap (λ z. z ∷ plus_columns (neg_ℤ by) p (suc n) xs) (plus_negated by (coefficient n p) x ∙ ap (λ z. plus by z x) (sym (negates p n)))
    ∙ ap (λ z. plus by (coefficient n (negated p)) x ∷ z) (columns_negated negates by p (suc n) xs)

pub form_negated : NegatesCoefficients → (by rhs : ℤ) (p : List Term) (t : Totals) → plus_form (neg_ℤ by) p by rhs t ≡ plus_form by (negated p) by rhs t
form_negated negates by rhs p t = let P : List Amount → Totals = λ xs. record { columns = xs; rhs = plus by rhs t.rhs } in ap P (columns_negated negates by p 0 t.columns)

any_negated : (by : ℤ) (p : List Term) (xs : List Amount) → list_any (λ u. is_wide (plus (neg_ℤ by) u.1 (amount_at xs u.0))) p ≡ list_any (λ u. is_wide (plus by u.1 (amount_at xs u.0))) (negated p)
any_negated by [] xs = refl
any_negated by (u ∷ p) xs =
    ap (λ a. is_wide a || list_any (λ v. is_wide (plus (neg_ℤ by) v.1 (amount_at xs v.0))) p) (plus_negated by u.1 (amount_at xs u.0))
    ∙ ap (λ b. is_wide (plus by (neg_ℤ u.1) (amount_at xs u.0)) || b) (any_negated by p xs)

pub wide_negated : (by rhs : ℤ) (p : List Term) (t : Totals) → is_wide_form (neg_ℤ by) p by rhs t ≡ is_wide_form by (negated p) by rhs t
wide_negated by rhs p t = ap (λ b. b || is_wide (plus by rhs t.rhs)) (any_negated by p t.columns)

-- ---- parts

missing_onto : (o : Option Ineq) (b : ℤ) (rest : Option (List Part)) → is_none (onto_parts o b rest) ≡ (is_none o || is_none rest)
missing_onto None b rest = refl
missing_onto (Some c) b None = refl
missing_onto (Some c) b (Some ps) = refl

pub missing_is : (means : Ref → Option Ineq) (refs : List (Ref × ℤ)) → is_none (parts_of means refs) ≡ list_any (λ r. is_none (means r.0)) refs
missing_is means [] = refl
missing_is means (r ∷ refs) = missing_onto (means r.0) r.1 (parts_of means refs) ∙ ap (λ b. is_none (means r.0) || b) (missing_is means refs)

is_there : {A : Type 0} (o : Option A) (d : A) → is_none o ≡ false → o ≡ Some (unwrap_or o d)
is_there None d e = cc
is_there (Some a) d e = refl

pub parts_there : (means : Ref → Option Ineq) (refs : List (Ref × ℤ)) → list_any (λ r. is_none (means r.0)) refs ≡ false → parts_of means refs ≡ Some (parts_in means refs)
parts_there means refs e = is_there (parts_of means refs) [] (missing_is means refs ∙ e)

onto_is : (o : Option Ineq) (b : ℤ) (rest : Option (List Part)) (parts : List Part) → onto_parts o b rest ≡ Some parts → (c : Ineq) × ((ps : List Part) × (o ≡ Some c) × (rest ≡ Some ps) × (parts ≡ (c, b) ∷ ps))
onto_is None b rest parts e = cc
onto_is (Some c) b None parts e = cc
onto_is (Some c) b (Some ps) parts e = (c, (ps, refl, refl, cc))

pub length_parts : (means : Ref → Option Ineq) (refs : List (Ref × ℤ)) (parts : List Part) → parts_of means refs ≡ Some parts → length parts ≡ length refs
length_parts means [] parts e = let none : parts ≡ [] = cc in ap (λ ps. length ps) none
length_parts means (r ∷ refs) parts e =
    let is = onto_is (means r.0) r.1 (parts_of means refs) parts e in
    ap (λ ps. length ps) is.1.3 ∙ ap suc (length_parts means refs is.1.0 is.1.2)

some_same : {a b : Ineq} → Some a ≡ Some b → a ≡ b
some_same e = cc

pub part_at : (means : Ref → Option Ineq) (refs : List (Ref × ℤ)) (parts : List Part) (i : ℕ) (d : Part) (e : Ref × ℤ) (c : Ineq) → parts_of means refs ≡ Some parts → i < length refs → means (get_or refs i e).0 ≡ Some c
    → get_or parts i d ≡ (c, (get_or refs i e).1)
part_at means [] parts i d e c is h at = absurd (omega (arith, h))
part_at means (r ∷ refs) parts zero d e c is h at =
    let one = onto_is (means r.0) r.1 (parts_of means refs) parts is in
    let same : one.0 ≡ c = some_same (sym one.1.1 ∙ at) in
    ap (λ ps. get_or ps 0 d) one.1.3 ∙ ap (λ x. (x, r.1)) same
part_at means (r ∷ refs) parts (suc i) d e c is h at =
    let one = onto_is (means r.0) r.1 (parts_of means refs) parts is in
    ap (λ ps. get_or ps (suc i) d) one.1.3 ∙ part_at means refs one.1.0 i d e c one.1.2 (omega (arith, h)) at

-- ---- narrow sums

pub narrow_sums : (m : Model) (parts : List Part) → AreNarrow parts → are_narrow_sums m parts ≡ true
narrow_sums m parts narrow =
    true_and _ _ (below_passes (length m.cols) _ (λ j l. not_of_false _ (not_reaches _ (narrow.left j)))) (not_of_false _ (not_reaches _ narrow.right))

sums_narrow : NoneBeyond → (m : Model) (parts : List Part) → PartsBelow (length m.cols) parts → are_narrow_sums m parts ≡ true → AreNarrow parts
sums_narrow beyond m parts below e =
    let test : ℕ → Bool = λ j. not (reaches (magnitudes (λ c. coefficient j c.terms) parts)) in
    let sums = and_true (all_below (length m.cols) test) (not (reaches (magnitudes (λ c. c.rhs) parts))) e in
    record {
      left = (λ j. by_size j (length m.cols)
          (λ l. reaches_not _ (not_true _ (below_holds (length m.cols) test sums.0 j l)))
          (λ l. subst (λ (n : ℕ). n < 2 ^ 127) (sym (magnitudes_past beyond (length m.cols) j parts l below)) (omega arith)));
      right = reaches_not _ (not_true _ sums.1);
    }

-- a first sum of parts that is too wide shows in that of all
pub first_wide : NoneBeyond → (m : Model) (first parts : List Part) → PartsBelow (length m.cols) parts → (AreNarrow parts → AreNarrow first) → (AreNarrow first → ⊥) → are_narrow_sums m parts ≡ false
first_wide beyond m first parts below narrow wide = if_not (are_narrow_sums m parts) (λ e. wide (narrow (sums_narrow beyond m parts below e)))

pub length_plus : (by : ℤ) (terms : List Term) (n : ℕ) (xs : List Amount) → length (plus_columns by terms n xs) ≡ length xs
length_plus by terms n [] = refl
length_plus by terms n (x ∷ xs) = ap suc (length_plus by terms (suc n) xs)

-- ---- the claim

pub claimed_from : (m : Model) (parts : List Part) (q : ℤ) (c : Ineq) (t : Totals) → IsSumOf parts t → ProvesClaim q c t → is_claimed m parts q c ≡ true
claimed_from m parts q c t is proves =
    true_and _ _ (below_passes (length m.cols) _ (λ j l. same_int _ _ (sym (is.left j) ∙ proves.left j)))
    (not_of_false _ (not_less_int _ _ (subst (λ (z : ℤ). (q *ℤ c.rhs) ≤ℤ z) is.right proves.right)))

pub from_claimed : NoneBeyond → (m : Model) (parts : List Part) (q : ℤ) (c : Ineq) (t : Totals) → IsSumOf parts t → PartsBelow (length m.cols) parts → AreColumnsBelow (length m.cols) c.terms → is_claimed m parts q c ≡ true → ProvesClaim q c t
from_claimed beyond m parts q c t is below columns e =
    let holds = claimed_holds beyond m parts q c e below columns in
    record { left = (λ j. is.left j ∙ holds.0 j); right = subst (λ (z : ℤ). (q *ℤ c.rhs) ≤ℤ z) (sym is.right) holds.1 }

-- ---- the failure of a sum

pub too_wide : (m : Model) (lin : Lin) (o : Option (List Part)) (parts : List Part) → o ≡ Some parts → are_narrow_sums m parts ≡ false → Some 3 ≡ sum_failure m lin o
too_wide m lin None parts e w = cc
too_wide m lin (Some ps) parts e w =
    let same : ps ≡ parts = cc in
    sym (ap (λ b. fails (not b || is_wide_claim lin.q lin.claim) wide (fails (not (is_claimed m ps lin.q lin.claim)) bad_sum None)) (ap (are_narrow_sums m) same ∙ w))

wide_by : (a b : Bool) (next : Option ℕ) → b ≡ true → Some 3 ≡ fails (a || b) wide next
wide_by true b next e = refl
wide_by false true next e = refl
wide_by false false next e = cc

pub claim_too_wide : (m : Model) (lin : Lin) (o : Option (List Part)) → is_wide_claim lin.q lin.claim ≡ true → (parts : List Part) → o ≡ Some parts → Some 3 ≡ sum_failure m lin o
claim_too_wide m lin None w parts e = cc
claim_too_wide m lin (Some ps) w parts e = wide_by (not (are_narrow_sums m ps)) (is_wide_claim lin.q lin.claim) _ w

result_by : (a w d b : Bool) → a ≡ true → w ≡ false → d ≡ b → (if b then None else Some 2) ≡ fails (not a || w) wide (fails (not d) bad_sum None)
result_by true false true true e f g = refl
result_by true false false false e f g = refl
result_by true false true false e f g = cc
result_by true false false true e f g = cc
result_by true true d b e f g = cc
result_by false w d b e f g = cc

pub sum_result : (m : Model) (lin : Lin) (o : Option (List Part)) (parts : List Part) (b : Bool) → o ≡ Some parts → are_narrow_sums m parts ≡ true → is_wide_claim lin.q lin.claim ≡ false → is_claimed m parts lin.q lin.claim ≡ b
    → (if b then None else Some 2) ≡ sum_failure m lin o
sum_result m lin None parts b e n w is = cc
sum_result m lin (Some ps) parts b e n w is =
    let same : ps ≡ parts = cc in
    result_by (are_narrow_sums m ps) (is_wide_claim lin.q lin.claim) (is_claimed m ps lin.q lin.claim) b (ap (are_narrow_sums m) same ∙ n) w (ap (λ x. is_claimed m x lin.q lin.claim) same ∙ is)

-- ---- the step

pub head_passed : (m : Model) (means : Ref → Option Ineq) (lin : Lin) → are_columns m lin.claim.terms ≡ true → list_any (λ r. int_lt r.1 (pos 0)) lin.refs ≡ false → int_lt lin.q (pos 1) ≡ false
    → sum_failure m lin (parts_of means lin.refs) ≡ lin_failure m means lin
head_passed m means lin columns none positive =
    sym (ap (λ b. fails (not b) bad_ref (fails (list_any (λ r. int_lt r.1 (pos 0)) lin.refs || int_lt lin.q (pos 1)) bad_sum (sum_failure m lin (parts_of means lin.refs)))) columns
    ∙ ap (λ b. fails (b || int_lt lin.q (pos 1)) bad_sum (sum_failure m lin (parts_of means lin.refs))) none
    ∙ ap (λ b. fails b bad_sum (sum_failure m lin (parts_of means lin.refs))) positive)

missing_by : (m : Model) (lin : Lin) (o : Option (List Part)) → is_none o ≡ true → Some 1 ≡ sum_failure m lin o
missing_by m lin None e = refl
missing_by m lin (Some ps) e = cc

pub missing_failure : (m : Model) (means : Ref → Option Ineq) (lin : Lin) → list_any (λ r. is_none (means r.0)) lin.refs ≡ true → Some 1 ≡ sum_failure m lin (parts_of means lin.refs)
missing_failure m means lin e = missing_by m lin (parts_of means lin.refs) (missing_is means lin.refs ∙ e)

-- ---- what a reference means, told by its terms

neg_zero : (z : ℤ) → neg_ℤ z ≡ pos 0 → z ≡ pos 0
neg_zero (pos zero) e = refl
neg_zero (pos (suc n)) e = cc
neg_zero (negsuc n) e = absurd (omega (arith, ints, e))

coefficient_signed : (z : ℤ) → IsCoefficient z → IsCoefficient (neg_ℤ z)
coefficient_signed z h = record { not_zero = (λ e. h.not_zero (neg_zero z e)); narrow = subst (λ (n : ℕ). n < 2 ^ 127) (sym (abs_neg z)) h.narrow }

rising_negated : (p : List Term) → IsRising p → IsRising (negated p)
rising_negated [] r = tt
rising_negated (t ∷ []) r = coefficient_signed t.1 r
rising_negated (t ∷ u ∷ p) r = (coefficient_signed t.1 r.0, r.1, rising_negated (u ∷ p) r.2)

pub rising_signed : (negative : Bool) (p : List Term) → IsRising p → IsRising (terms_of negative p)
rising_signed true p r = rising_negated p r
rising_signed false p r = r

columns_plain : (n : ℕ) (p : List Term) → AreColumnsBelow n (negated p) → AreColumnsBelow n p
columns_plain n [] all = tt
columns_plain n (t ∷ p) all = (all.0, columns_plain n p all.1)

pub columns_unsigned : (n : ℕ) (negative : Bool) (p : List Term) → AreColumnsBelow n (terms_of negative p) → AreColumnsBelow n p
columns_unsigned n true p all = columns_plain n p all
columns_unsigned n false p all = all

pub part_next : (parts : List Part) (i : ℕ) (d p : Part) → i < length parts → get_or parts i d ≡ p → take (i + 1) parts ≡ take i parts ++ p ∷ []
part_next parts i d p h e = take_more parts i d h ∙ ap (λ x. take i parts ++ x ∷ []) e

-- none of the first items is so, and the next one is not so either
pub any_more : {X : Type 0} (p : X → Bool) (xs : List X) (i : ℕ) (d : X) → i < length xs → list_any p (take i xs) ≡ false → p (get_or xs i d) ≡ false → list_any p (take (i + 1) xs) ≡ false
any_more {X = X} p xs i d below none here = ap (list_any p) (take_more xs i d below) ∙ any_end (take i xs) (get_or xs i d) none here
  where
    by_rest : (here rest more : Bool) → (here || rest) ≡ false → (rest ≡ false → more ≡ false) → (here || more) ≡ false
    by_rest true rest more e later = e
    by_rest false rest more e later = later e

    any_end : (ys : List X) (y : X) → list_any p ys ≡ false → p y ≡ false → list_any p (ys ++ y ∷ []) ≡ false
    any_end [] y none here = ap (λ b. b || false) here
    any_end (x ∷ ys) y none here = by_rest (p x) (list_any p ys) (list_any p (ys ++ y ∷ [])) none (λ e. any_end ys y e here)

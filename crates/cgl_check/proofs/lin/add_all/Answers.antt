use Rattle.std.proofs.Common.{◌≡◌, ◌+◌, ◌∷◌, ◌++◌, [], ℕ, ℤ, pos, Bool, true, false, is_none, List, take, drop, length, get_or, Some, refl, sym, ap, ◌∙◌, subst, rules, arith}
use Rattle.std.specs.List.{list_any}
use Rattle.std.specs.Int.{w128}
use Rattle.std.specs.Int.RustNames.{FitsSigned}
use Rattle.std.proofs.lemmas.Int.{to_z-of_z}
use Rattle.std.proofs.lemmas.List.{take-append-drop}
use Rattle.cgl_model.specs.declared.places.End.TheVariants.{Lower}
use Rattle.cgl_model.specs.declared.places.Place.TheVariants.{Row}
use Rattle.cgl_model.specs.Inequality.{AreColumnsBelow}
use Rattle.cgl_derive.specs.declared.step.Ref.{Ref}
use Rattle.cgl_derive.specs.declared.step.Ref.TheVariants as by
use Rattle.cgl_derive.specs.Derives.{Part}
use Rattle.cgl_derive.specs.Totals.{AreNarrow, IsSumOf, Totals, is_wide_side, plus_side}
use Rattle.cgl_check.specs.LinearIneq.{ineq_of}
use Rattle.cgl_check.specs.Walk.{meant_at, parts_in}
use Rattle.cgl_check.proofs.WalkLaws.{meant_columns}
use Rattle.cgl_check.proofs.SignLaws.{take_whole}
use Rattle.cgl_check.proofs.LinExact.{parts_below}
use Rattle.cgl_check.proofs.LinCheckLaws.{any_more, columns_unsigned, first_wide, length_parts, length_plus, narrow_sums, part_at, part_next, parts_there, rising_signed}
use Rattle.cgl_check.proofs.TestLaws.{true_not_false}
use Rattle.cgl_check.proofs.lin.add_all.Goals as goal

pub add-requires-clause-columns : goal.add-requires-clause-columns
add-requires-clause-columns c =
    let scope = c.args.scope.now in
    let columns = meant_columns scope c.args.frames.now c.args.own c.requires.scope c.requires.at _ (ineq_of c.in-Some.from) (sym c.in-Some.ensures.value) in
    let Q : ℕ → Type 0 = λ n. AreColumnsBelow n c.in-Some.from.terms.now in
    subst Q (sym c.loop-part.invariant.size) (columns_unsigned (length scope.model.now.cols) c.in-Some.from.negative c.in-Some.from.terms.now columns)

pub returns-in_default-add-clause-wide : goal.returns-in_default-add-clause-wide
returns-in_default-add-clause-wide c = λ some.
    let m = c.args.scope.now.model.now in
    let refs = c.args.refs.now in
    let i = c.loop-part.part-index in
    let means = meant_at c.args.scope.now c.args.frames.now c.args.own in
    let parts = parts_in means refs in
    let e : Ref × ℤ = (by.Side (Row 0 Lower), pos 0) in
    let r = get_or refs i e in
    let from = c.in-Some.from in
    let r_fits : FitsSigned w128 r.1 = search rules in
    let r_is = to_z-of_z w128 r.1 r_fits in
    let there = parts_there means refs some in
    let size = length_parts means refs parts there in
    let d : Part = (ineq_of from, r.1) in
    let part = part_at means refs parts i d e (ineq_of from) there (omega arith) (sym c.in-Some.ensures.value) in
    let below = parts_below (length m.cols) means (meant_columns c.args.scope.now c.args.frames.now c.args.own c.requires.scope c.requires.at) refs parts there in
    let wide = rw r_is at c.in_default-add.ensures.wide in
    let next = part_next parts i d d (omega (arith, size)) part in
    let rising = rising_signed from.negative from.terms.now c.in-Some.ensures.rising in
    let test = c.weighted_sums.ensures.narrow (take i parts) (ineq_of from) r.1 c.loop-part.sum rising (c.loop-part.invariant.sum some) (c.loop-part.invariant.narrow some) in
    let all = take-append-drop (i + 1) parts in
    first_wide c.coefficient_laws.ensures.beyond m (take i parts ++ d ∷ []) parts below
    (λ narrow. subst AreNarrow next (c.weighted_sums.ensures.narrow_first (take (i + 1) parts) (drop (i + 1) parts) (subst AreNarrow (sym all) narrow)))
    (λ narrow. true_not_false (is_wide_side r.1 (ineq_of from) c.loop-part.sum) wide (test.1 narrow))

pub loop-part-preserved : goal.loop-part-preserved
loop-part-preserved c =
    let m = c.args.scope.now.model.now in
    let refs = c.args.refs.now in
    let i = c.loop-part.part-index in
    let means = meant_at c.args.scope.now c.args.frames.now c.args.own in
    let parts = parts_in means refs in
    let e : Ref × ℤ = (by.Side (Row 0 Lower), pos 0) in
    let r = get_or refs i e in
    let from = c.in-Some.from in
    let r_fits : FitsSigned w128 r.1 = search rules in
    let r_is = to_z-of_z w128 r.1 r_fits in
    let d : Part = (ineq_of from, r.1) in
    let meant : means r.0 ≡ Some (ineq_of from) = sym c.in-Some.ensures.value in
    let columns = meant_columns c.args.scope.now c.args.frames.now c.args.own c.requires.scope c.requires.at r.0 (ineq_of from) meant in
    let Q : ℕ → Type 0 = λ n. AreColumnsBelow n (ineq_of from).terms in
    let below = subst Q (sym c.loop-part.invariant.size) columns in
    let ok = rw r_is at c.in-Ok.ensures.ok in
    let narrow = rw r_is at c.in-Ok.ensures.narrow in
    let next : (some : list_any (λ r. is_none (means r.0)) refs ≡ false) → take i parts ++ d ∷ [] ≡ take (i + 1) parts =
    λ some. sym (part_next parts i d d (omega (arith, length_parts means refs parts (parts_there means refs some))) (part_at means refs parts i d e (ineq_of from) (parts_there means refs some) (omega arith) meant)) in
    let rising = rising_signed from.negative from.terms.now c.in-Some.ensures.rising in
    record {
      size = ap (λ (t : Totals). length t.columns) ok ∙ length_plus r.1 (ineq_of from).terms 0 c.loop-part.sum.columns ∙ c.loop-part.invariant.size;
      some = any_more (λ r. is_none (means r.0)) refs i e (omega arith) c.loop-part.invariant.some (ap is_none meant);
      sum = λ some. subst (λ (t : Totals). IsSumOf (take (i + 1) parts) t) (sym ok) (subst (λ (ps : List Part). IsSumOf ps (plus_side r.1 (ineq_of from) c.loop-part.sum)) (next some)
          (c.weighted_sums.ensures.more (take i parts) (ineq_of from) r.1 c.loop-part.sum below (c.loop-part.invariant.sum some)));
      narrow = λ some. subst AreNarrow (next some)
          ((c.weighted_sums.ensures.narrow (take i parts) (ineq_of from) r.1 c.loop-part.sum rising (c.loop-part.invariant.sum some) (c.loop-part.invariant.narrow some)).0 narrow);
    }

pub returns-clause-some : goal.returns-clause-some
returns-clause-some c =
    let missing : Ref × ℤ → Bool = λ r. is_none (meant_at c.args.scope.now c.args.frames.now c.args.own r.0) in
    subst (λ (rs : List (Ref × ℤ)). list_any missing rs ≡ false) (take_whole c.args.refs.now c.loop-part.part-index (omega arith)) c.loop-part.invariant.some

pub returns-clause-sum : goal.returns-clause-sum
returns-clause-sum c =
    let means = meant_at c.args.scope.now c.args.frames.now c.args.own in
    let parts = parts_in means c.args.refs.now in
    let missing : Ref × ℤ → Bool = λ r. is_none (means r.0) in
    let some = subst (λ (rs : List (Ref × ℤ)). list_any missing rs ≡ false) (take_whole c.args.refs.now c.loop-part.part-index (omega arith)) c.loop-part.invariant.some in
    let size = length_parts means c.args.refs.now parts (parts_there means c.args.refs.now some) in
    subst (λ (ps : List Part). IsSumOf ps c.loop-part.sum) (take_whole parts c.loop-part.part-index (omega (arith, size))) (c.loop-part.invariant.sum some)

pub returns-clause-narrow : goal.returns-clause-narrow
returns-clause-narrow c =
    let means = meant_at c.args.scope.now c.args.frames.now c.args.own in
    let parts = parts_in means c.args.refs.now in
    let missing : Ref × ℤ → Bool = λ r. is_none (means r.0) in
    let some = subst (λ (rs : List (Ref × ℤ)). list_any missing rs ≡ false) (take_whole c.args.refs.now c.loop-part.part-index (omega arith)) c.loop-part.invariant.some in
    let size = length_parts means c.args.refs.now parts (parts_there means c.args.refs.now some) in
    narrow_sums c.args.scope.now.model.now parts (subst AreNarrow (take_whole parts c.loop-part.part-index (omega (arith, size))) (c.loop-part.invariant.narrow some))

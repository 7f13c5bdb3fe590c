use Rattle.std.proofs.Common.{◌≡◌, ◌∙◌, refl, sym, ap, subst, rules, length, ◌==◌, false, ℤ, List, pos}
use Rattle.std.specs.Prelude.{◌<ℤ◌, IsTrue}
use Rattle.std.specs.Int.{w128}
use Rattle.std.specs.Int.RustNames.{FitsSigned}
use Rattle.std.specs.List.{list_all}
use Rattle.std.proofs.lemmas.Int.{to_z-of_z}
use Rattle.std.proofs.lemmas.Result.{IfOk-weaker}
use Rattle.cgl_model.specs.Inequality.{AreColumnsBelow, Term}
use Rattle.cgl_derive.specs.Derives.{is_integer}
use Rattle.cgl_derive.specs.Rounding.{divides_all, divisor_of, rounded}
use Rattle.cgl_gen.specs.RoundMember.{answer_with}
use Rattle.cgl_gen.proofs.MemberLaws.{above_zero, idle_empty, idle_column, idle_divided, member_is, columns_map, some_terms}
use Rattle.cgl_gen.proofs.rounding.round.Goals as goal

pub returns-then-is_empty : goal.returns-then-is_empty
returns-then-is_empty c =
    idle_empty c.args.model.now c.args.point.now c.args.side.now (ap (λ z. length z == 0) (sym c.as_slice-terms.ensures.value) ∙ sym c.if-is_empty.ensures)

pub returns-then-not-are_integer : goal.returns-then-not-are_integer
returns-then-not-are_integer c =
    idle_column c.args.model.now c.args.point.now c.args.side.now (ap (list_all (λ t. is_integer c.args.model.now t.0)) (sym c.as_slice-terms.ensures.value) ∙ sym c.if-not-are_integer.ensures)

pub divides-requires : goal.divides-requires
divides-requires c =
    let terms = c.args.side.now.ineq.terms in
    let some : (length terms == 0) ≡ false = ap (λ z. length z == 0) (sym c.as_slice-terms.ensures.value) ∙ sym c.if-is_empty.ensures in
    let fits : FitsSigned w128 c.divisor_of-divisor.result = search rules in
    let is = to_z-of_z w128 c.divisor_of-divisor.result fits ∙ c.divisor_of-divisor.ensures in
    subst (λ (z : ℤ). pos 0 <ℤ z) (sym is) (above_zero (divisor_of terms) (c.divisors.ensures.positive terms c.as_slice-terms.ensures.rising (some_terms terms some)))

pub returns-then-divides : goal.returns-then-divides
returns-then-divides c =
    let side = c.args.side.now in
    let fits : FitsSigned w128 c.divisor_of-divisor.result = search rules in
    let is = to_z-of_z w128 c.divisor_of-divisor.result fits ∙ c.divisor_of-divisor.ensures in
    let rhs_fits : FitsSigned w128 side.ineq.rhs = search rules in
    let rhs_is = to_z-of_z w128 side.ineq.rhs rhs_fits in
    let test = rw (is, rhs_is) at c.if-divides.ensures in
    idle_divided c.args.model.now c.args.point.now side (sym test)

pub rounded-requires-clause-positive : goal.rounded-requires-clause-positive
rounded-requires-clause-positive c =
    let terms = c.args.side.now.ineq.terms in
    let some : (length terms == 0) ≡ false = ap (λ z. length z == 0) (sym c.as_slice-terms.ensures.value) ∙ sym c.if-is_empty.ensures in
    let fits : FitsSigned w128 c.divisor_of-divisor.result = search rules in
    let is = to_z-of_z w128 c.divisor_of-divisor.result fits ∙ c.divisor_of-divisor.ensures in
    subst (λ (z : ℤ). pos 0 <ℤ z) (sym is) (above_zero (divisor_of terms) (c.divisors.ensures.positive terms c.as_slice-terms.ensures.rising (some_terms terms some)))

pub rounded-requires-clause-divides : goal.rounded-requires-clause-divides
rounded-requires-clause-divides c =
    let terms = c.args.side.now.ineq.terms in
    let fits : FitsSigned w128 c.divisor_of-divisor.result = search rules in
    let is = to_z-of_z w128 c.divisor_of-divisor.result fits ∙ c.divisor_of-divisor.ensures in
    subst (λ (z : ℤ). IsTrue (divides_all z terms)) (sym is) (c.divisors.ensures.each terms)

pub answer-requires : goal.answer-requires
answer-requires c =
    let side = c.args.side.now in
    let P : List Term → Type 0 = λ terms. AreColumnsBelow (length c.args.point.now.p) terms in
    record { columns = subst P (sym (ap (λ z. z.terms) c.in_ok-cut.ensures)) (columns_map (length c.args.point.now.p) _ (λ t. refl) side.ineq.terms c.requires.columns) }

pub returns : goal.returns
returns c =
    let model = c.args.model.now in
    let point = c.args.point.now in
    let side = c.args.side.now in
    let some = ap (λ z. length z == 0) (sym c.as_slice-terms.ensures.value) ∙ sym c.if-is_empty.ensures in
    let integer = ap (list_all (λ t. is_integer model t.0)) (sym c.as_slice-terms.ensures.value) ∙ sym c.if-not-are_integer.ensures in
    let fits : FitsSigned w128 c.divisor_of-divisor.result = search rules in
    let is = to_z-of_z w128 c.divisor_of-divisor.result fits ∙ c.divisor_of-divisor.ensures in
    let rhs_fits : FitsSigned w128 side.ineq.rhs = search rules in
    let rhs_is = to_z-of_z w128 side.ineq.rhs rhs_fits in
    let test = rw (is, rhs_is) at c.if-divides.ensures in
    let cut_is = c.in_ok-cut.ensures ∙ ap (λ z. rounded z side.ineq) is in
    let member = member_is model point side some integer (sym test) in
    IfOk-weaker c.answer.result _ _ (λ a e. e ∙ ap (λ z. answer_with side point z c.in_ok-cut.cut) is ∙ ap (answer_with side point (pos (divisor_of side.ineq.terms))) cut_is ∙ member) c.answer.ensures

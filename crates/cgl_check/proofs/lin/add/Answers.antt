use Rattle.std.proofs.Common.{◌≡◌, Bool, true, false, sym, ◌∙◌, subst, rules}
use Rattle.std.specs.Int.{w128}
use Rattle.std.specs.Int.RustNames.{FitsSigned}
use Rattle.std.proofs.lemmas.Int.{to_z-of_z}
use Rattle.cgl_derive.specs.Totals.{is_wide_form, plus_form}
use Rattle.cgl_check.specs.LinearIneq.{terms_of}
use Rattle.cgl_check.proofs.LinCheckLaws.{form_negated, wide_negated}
use Rattle.cgl_check.proofs.lin.add.Goals as goal

pub returns-in_default-clause-wide : goal.returns-in_default-clause-wide
returns-in_default-clause-wide c =
    let by_is = to_z-of_z w128 c.args.by c.ranges.by in
    let neg_fits : FitsSigned w128 c.negative_of.result = search rules in
    let neg_is = to_z-of_z w128 c.negative_of.result neg_fits in
    let neg = rw by_is at c.negative_of.ensures in
    let rhs_fits : FitsSigned w128 c.args.from.rhs = search rules in
    let rhs_is = to_z-of_z w128 c.args.from.rhs rhs_fits in
    let wide = rw (by_is, neg_is, neg, rhs_is) at c.in_default.ensures.wide in
    let P : Bool → Type 0 = λ b. is_wide_form c.args.by (terms_of b c.args.from.terms.now) c.args.by c.args.from.rhs c.args.sum.now ≡ true in
    subst P (sym c.if-from.true) (sym (wide_negated c.args.by c.args.from.rhs c.args.from.terms.now c.args.sum.now) ∙ wide)

pub returns-then-from-clause-ok : goal.returns-then-from-clause-ok
returns-then-from-clause-ok c =
    let by_is = to_z-of_z w128 c.args.by c.ranges.by in
    let neg_fits : FitsSigned w128 c.negative_of.result = search rules in
    let neg_is = to_z-of_z w128 c.negative_of.result neg_fits in
    let neg = rw by_is at c.negative_of.ensures in
    let rhs_fits : FitsSigned w128 c.args.from.rhs = search rules in
    let rhs_is = to_z-of_z w128 c.args.from.rhs rhs_fits in
    let ok = rw (by_is, neg_is, neg, rhs_is) at c.in-Ok.ensures.ok in
    let P : Bool → Type 0 = λ b. c.add_form.new.self ≡ plus_form c.args.by (terms_of b c.args.from.terms.now) c.args.by c.args.from.rhs c.args.sum.now in
    subst P (sym c.if-from.true) (ok ∙ form_negated c.coefficient_laws.ensures.negated c.args.by c.args.from.rhs c.args.from.terms.now c.args.sum.now)

pub returns-then-from-clause-narrow : goal.returns-then-from-clause-narrow
returns-then-from-clause-narrow c =
    let by_is = to_z-of_z w128 c.args.by c.ranges.by in
    let neg_fits : FitsSigned w128 c.negative_of.result = search rules in
    let neg_is = to_z-of_z w128 c.negative_of.result neg_fits in
    let neg = rw by_is at c.negative_of.ensures in
    let rhs_fits : FitsSigned w128 c.args.from.rhs = search rules in
    let rhs_is = to_z-of_z w128 c.args.from.rhs rhs_fits in
    let narrow = rw (by_is, neg_is, neg, rhs_is) at c.in-Ok.ensures.narrow in
    let P : Bool → Type 0 = λ b. is_wide_form c.args.by (terms_of b c.args.from.terms.now) c.args.by c.args.from.rhs c.args.sum.now ≡ false in
    subst P (sym c.if-from.true) (sym (wide_negated c.args.by c.args.from.rhs c.args.from.terms.now c.args.sum.now) ∙ narrow)

use Rattle.std.proofs.Common.{◌≡◌, ◌∙◌, ◌∷◌, ◌-◌, ◌<◌, ◌^◌, ℕ, ℤ, pos, List, drop, get_or, sym, ap, subst, rules, arith, to_z, of_z}
use Rattle.std.specs.Prelude.{◌+ℤ◌, ◌<ℤ◌, unsigned_abs}
use Rattle.std.specs.Int.{w128}
use Rattle.std.specs.Int.RustNames.{FitsSigned}
use Rattle.std.proofs.Math.Seq.{drop-length}
use Rattle.std.proofs.lemmas.Int.{ints, to_z-of_z}
use Rattle.cgl_knap.specs.Greatest.{HasRoom, IsTable}
use Rattle.cgl_knap.specs.Subset.{total_value}
use Rattle.cgl_model.specs.Inequality.{Term}
use Rattle.cgl_derive.specs.Derives.{coefficient}
use Rattle.cgl_check.specs.Knapsacks.{weights_of}
use Rattle.cgl_check.specs.LinearIneq.{ineq_of}
use Rattle.cgl_check.proofs.KnapSumLaws.{coefficient_narrow, drop_next, next_total, term_values, term_weights, values_positive, values_signed, weights_signed}
use Rattle.cgl_check.proofs.knap.fill.Goals as goal

pub loop-i-init : goal.loop-i-init
loop-i-init c = subst (λ (ts : List Term). IsTable (term_weights ts) (term_values ts c.args.claim.now) c.clear.new.table) (sym (drop-length c.args.from.terms.now)) c.clear.ensures

pub magnitude-value-requires : goal.magnitude-value-requires
magnitude-value-requires c =
    let t = get_or c.args.from.terms.now (c.loop-i.i - 1) (0, pos 0) in
    let fits : FitsSigned w128 c.coefficient_of.result = search rules in
    rw (to_z-of_z w128 c.coefficient_of.result fits) (subst (λ (z : ℤ). unsigned_abs z < 2 ^ 127) (sym c.coefficient_of.ensures) (coefficient_narrow t.0 c.args.claim.now c.requires.claim))

pub add_literal-requires-clause-room : goal.add_literal-requires-clause-room
add_literal-requires-clause-room c =
    let terms = c.args.from.terms.now in
    let claim = c.args.claim.now in
    let n = c.loop-i.i in
    let i = n - 1 in
    let t = get_or terms i (0, pos 0) in
    let number_fits : FitsSigned w128 c.coefficient_of.result = search rules in
    let value_fits : FitsSigned w128 c.magnitude-value.result = search rules in
    let number_is = to_z-of_z w128 c.coefficient_of.result number_fits ∙ c.coefficient_of.ensures in
    let value_is = to_z-of_z w128 c.magnitude-value.result value_fits ∙ c.magnitude-value.ensures ∙ ap (λ (z : ℤ). pos (unsigned_abs z)) number_is in
    let total = next_total terms claim i n (0, pos 0) (omega arith) (omega arith) c.requires.rising in
    let value = pos (unsigned_abs (coefficient t.0 claim)) in
    let below : (value +ℤ total_value (term_values (drop n terms) claim)) <ℤ pos (2 ^ 127) = omega (arith, ints, total, c.requires.narrow) in
    let room = c.tables.ensures.room (term_weights (drop n terms)) (term_values (drop n terms) claim) c.loop-i.table value (values_positive (drop n terms) claim) c.loop-i.invariant below in
    subst (λ (v : ℤ). HasRoom v c.loop-i.table) (sym value_is) room

pub loop-i-preserved : goal.loop-i-preserved
loop-i-preserved c =
    let terms = c.args.from.terms.now in
    let claim = c.args.claim.now in
    let n = c.loop-i.i in
    let i = n - 1 in
    let t = get_or terms i (0, pos 0) in
    let t_fits : FitsSigned w128 t.1 = search rules in
    let number_fits : FitsSigned w128 c.coefficient_of.result = search rules in
    let value_fits : FitsSigned w128 c.magnitude-value.result = search rules in
    let number_is = to_z-of_z w128 c.coefficient_of.result number_fits ∙ c.coefficient_of.ensures in
    let value_is = to_z-of_z w128 c.magnitude-value.result value_fits ∙ c.magnitude-value.ensures ∙ ap (λ (z : ℤ). pos (unsigned_abs z)) number_is in
    let weight_is = c.unsigned_abs.ensures.value ∙ ap (λ (z : ℤ). unsigned_abs z) (to_z-of_z w128 t.1 t_fits) in
    let table = c.add_literal.new.table in
    let weights = term_weights (drop n terms) in
    let values = term_values (drop n terms) claim in
    let more = c.add_literal.ensures weights values c.loop-i.invariant in
    let weighed = subst (λ (w : ℕ). IsTable (w ∷ weights) (to_z w128 (of_z w128 c.magnitude-value.result) ∷ values) table) weight_is more in
    let valued = subst (λ (v : ℤ). IsTable (unsigned_abs t.1 ∷ weights) (v ∷ values) table) value_is weighed in
    subst (λ (ts : List Term). IsTable (term_weights ts) (term_values ts claim) table) (sym (drop_next terms i n (0, pos 0) (omega arith) (omega arith))) valued

pub returns : goal.returns
returns c =
    let terms = c.args.from.terms.now in
    let claim = c.args.claim.now in
    let negative = c.args.from.negative in
    let table = c.loop-i.table in
    let none : c.loop-i.i ≡ 0 = omega arith in
    let whole = subst (λ (k : ℕ). IsTable (term_weights (drop k terms)) (term_values (drop k terms) claim) table) none c.loop-i.invariant in
    let weighed = subst (λ (ws : List ℕ). IsTable ws (term_values terms claim) table) (sym (weights_signed negative terms)) whole in
    subst (λ (vs : List ℤ). IsTable (weights_of (ineq_of c.args.from)) vs table) (sym (values_signed negative terms claim)) weighed

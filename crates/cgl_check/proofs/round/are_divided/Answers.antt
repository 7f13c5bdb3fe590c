use Rattle.std.proofs.Common.{◌≡◌, ℤ, pos, true, get_or, sym, ap, ◌∙◌, subst, rules, arith, to_z, of_z}
use Rattle.std.specs.Int.{w128}
use Rattle.std.specs.Int.RustNames.{FitsSigned}
use Rattle.std.specs.List.{list_all}
use Rattle.std.proofs.lemmas.Int.{to_z-of_z}
use Rattle.cgl_derive.specs.Rounding.{divides}
use Rattle.cgl_check.specs.LinearIneq.{signed}
use Rattle.cgl_check.proofs.SignLaws.{rising_at, all_signed, not_all, all_more, take_whole}
use Rattle.cgl_check.proofs.round.are_divided.Goals as goal

pub is_divided-requires-clause-narrow : goal.is_divided-requires-clause-narrow
is_divided-requires-clause-narrow c =
    let t = get_or c.args.from.terms.now c.loop-term.term-index (0, pos 0) in
    let t_fits : FitsSigned w128 t.1 = search rules in
    rw (to_z-of_z w128 t.1 t_fits) (rising_at c.args.from.terms.now c.loop-term.term-index (0, pos 0) c.requires.rising (omega arith)).narrow

pub returns-then-not-is_divided : goal.returns-then-not-is_divided
returns-then-not-is_divided c =
    let t = get_or c.args.from.terms.now c.loop-term.term-index (0, pos 0) in
    let t_fits : FitsSigned w128 t.1 = search rules in
    let g_is = to_z-of_z w128 c.args.g c.ranges.g in
    let test = rw (g_is, to_z-of_z w128 t.1 t_fits) at c.if-not-is_divided.ensures in
    sym (all_signed c.args.g c.args.from.negative c.args.from.terms.now ∙ not_all (λ u. divides c.args.g (signed c.args.from.negative u.1)) c.args.from.terms.now c.loop-term.term-index (0, pos 0) (omega arith) (sym test))

pub loop-term-preserved : goal.loop-term-preserved
loop-term-preserved c =
    let t = get_or c.args.from.terms.now c.loop-term.term-index (0, pos 0) in
    let t_fits : FitsSigned w128 t.1 = search rules in
    let test = rw (to_z-of_z w128 t.1 t_fits) at c.if-not-is_divided.ensures in
    all_more (λ u. divides (to_z w128 (of_z w128 c.args.g)) (signed c.args.from.negative u.1)) c.args.from.terms.now c.loop-term.term-index (0, pos 0) (omega arith) c.loop-term.invariant (sym test)

pub returns : goal.returns
returns c =
    let g_is = to_z-of_z w128 c.args.g c.ranges.g in
    let P : ℤ → Type 0 = λ g. list_all (λ u. divides g (signed c.args.from.negative u.1)) c.args.from.terms.now ≡ true in
    let all = ap (list_all (λ u. divides (to_z w128 (of_z w128 c.args.g)) (signed c.args.from.negative u.1))) (sym (take_whole c.args.from.terms.now c.loop-term.term-index (omega arith))) ∙ c.loop-term.invariant in
    sym (all_signed c.args.g c.args.from.negative c.args.from.terms.now ∙ subst P g_is all)

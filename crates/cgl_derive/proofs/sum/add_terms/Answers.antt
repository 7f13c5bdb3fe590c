use Rattle.std.proofs.Common.{◌≡◌, ℤ, pos, false, sym, ap, ◌∙◌, subst, rules, arith, take, get_or, length, to_z, of_z}
use Rattle.std.specs.Int.{w128}
use Rattle.std.specs.Int.RustNames.{FitsSigned}
use Rattle.std.specs.List.{list_any}
use Rattle.std.proofs.lemmas.Int.{to_z-of_z}
use Rattle.cgl_derive.specs.Totals.{plus, is_wide, amount_at}
use Rattle.cgl_derive.proofs.AmountLaws.{column_at, none_columns, length_plus, add_step, add_never}
use Rattle.cgl_derive.proofs.sum.add_terms.Goals as goal

pub loop-term-init : goal.loop-term-init
loop-term-init c = none_columns (to_z w128 (of_z w128 c.args.by)) 0 c.args.columns.now

pub bounds-columns-term : goal.bounds-columns-term
bounds-columns-term c =
    let same = ap (λ xs. length xs) c.loop-term.invariant ∙ length_plus (to_z w128 (of_z w128 c.args.by)) (take c.loop-term.term-index c.args.terms.now) 0 c.args.columns.now in
    let inside = column_at (length c.args.columns.now) c.args.terms.now c.loop-term.term-index (0, pos 0) c.requires.columns (omega arith) in
    omega (arith, same, inside)

pub loop-term-preserved-in_default : goal.loop-term-preserved-in_default
loop-term-preserved-in_default c =
    let by = to_z w128 (of_z w128 c.args.by) in
    let by_is = to_z-of_z w128 c.args.by c.ranges.by in
    let t = get_or c.args.terms.now c.loop-term.term-index (0, pos 0) in
    let t_fits : FitsSigned w128 t.1 = search rules in
    let t_is = to_z-of_z w128 t.1 t_fits in
    let wide = rw t_is at c.in_default.ensures.wide in
    let narrow = subst (λ (b : ℤ). list_any (λ u. is_wide (plus b u.1 (amount_at c.args.columns.now u.0))) c.args.terms.now ≡ false) (sym by_is) c.requires.narrow in
    absurd (add_never by c.args.terms.now c.loop-term.term-index (0, pos 0) c.args.columns.now c.loop-term.columns c.index-columns-term.result c.requires.rising c.requires.columns (omega arith)
    c.loop-term.invariant c.index-columns-term.is wide narrow)

pub loop-term-preserved : goal.loop-term-preserved
loop-term-preserved c =
    let by = to_z w128 (of_z w128 c.args.by) in
    let t = get_or c.args.terms.now c.loop-term.term-index (0, pos 0) in
    let t_fits : FitsSigned w128 t.1 = search rules in
    let t_is = to_z-of_z w128 t.1 t_fits in
    let sum = rw t_is at c.in-Ok.ensures.sum in
    add_step by c.args.terms.now c.loop-term.term-index (0, pos 0) c.args.columns.now c.loop-term.columns c.index-columns-term.result c.in-Ok.total c.requires.rising c.requires.columns (omega arith)
    c.loop-term.invariant c.index-columns-term.is sum

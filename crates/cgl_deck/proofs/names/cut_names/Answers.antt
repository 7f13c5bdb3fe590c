use Rattle.std.proofs.Common.{◌+◌, ◌∙◌, length, map, ap, arith, refl}
use Rattle.cgl_deck.specs.CutNames.{cut_name, cut_names}
use Rattle.cgl_deck.proofs.NameLaws.{names_start, names_turn_at, no_names}
use Rattle.cgl_deck.proofs.names.cut_names.Goals as goal

pub returns-then-n-eq0-clause-names : goal.returns-then-n-eq0-clause-names
returns-then-n-eq0-clause-names c = no_names c.args.model.now c.args.n c.new-names.result c.new-names.ensures (let zero = c.if-n-eq0.true in omega (arith, zero))

pub loop-number-init : goal.loop-number-init
loop-number-init c =
    names_start c.args.model.now c.args.n c.new-names.result _ c.new-names.ensures (omega (arith, ap length c.as_slice-rows.ensures))

pub loop-number-preserved : goal.loop-number-preserved
loop-number-preserved c =
    names_turn_at c.args.model.now c.args.n c.loop-number.names c.add_unused.new.names (cut_names c.args.model.now c.args.n) c.in_ok-used.used c.loop-number.number
    (length c.as_slice-rows.result.now + c.args.n) (cut_name (c.loop-number.number + 1))
    (omega (arith, ap length c.as_slice.ensures, c.loop-number.invariant.within)) (omega arith) refl
    (c.in_ok-used.ensures ∙ ap (map (λ r. r.name)) c.as_slice-rows.ensures) c.in_ok-add_unused.ensures c.loop-number.invariant

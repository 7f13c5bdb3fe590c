use Rattle.std.proofs.Common.{sym, ◌∙◌, [], refl}
use Rattle.cgl_decode.specs.Decode.{deck_limits}
use Rattle.cgl_mps.specs.Seen.{word_at}
use Rattle.cgl_mps.specs.State.{entry_conditions}
use Rattle.cgl_mps.proofs.FaultLaws.{no_pair, first_pair, one_pair, second_pair, judged}
use Rattle.cgl_mps.proofs.ResolveLaws.{first_resolved, second_resolved}
use Rattle.cgl_mps.proofs.judge.entries_fault.Goals as goal

pub returns-then-fields-lt2 : goal.returns-then-fields-lt2
returns-then-fields-lt2 c = sym (no_pair (entry_conditions deck_limits c.args.state.now c.args.name.now) c.args.fields.now c.if-fields-lt2.true)

pub returns-in-Some : goal.returns-in-Some
returns-in-Some c =
    let judge = entry_conditions deck_limits c.args.state.now c.args.name.now in
    let pair = first_resolved c.args.state.now.rows c.args.fields.now c.args.pairs.now _ _ c.requires.found c.if-fields-lt2.false c.resolved_at.ensures c.word_at.ensures in
    sym (first_pair judge c.args.fields.now c.in-Some.kind c.if-fields-lt2.false (judged judge [] (word_at 0 c.args.fields.now) (word_at 1 c.args.fields.now) c.word_at.result.now (word_at 1 c.args.fields.now) _ (c.entry_fault.ensures (word_at 1 c.args.fields.now) pair) c.word_at.ensures refl ∙ c.in-Some.is))

pub returns-then-fields-lt4 : goal.returns-then-fields-lt4
returns-then-fields-lt4 c =
    let judge = entry_conditions deck_limits c.args.state.now c.args.name.now in
    let pair = first_resolved c.args.state.now.rows c.args.fields.now c.args.pairs.now _ _ c.requires.found c.if-fields-lt2.false c.resolved_at.ensures c.word_at.ensures in
    sym (one_pair judge c.args.fields.now c.if-fields-lt2.false c.if-fields-lt4.true (judged judge [] (word_at 0 c.args.fields.now) (word_at 1 c.args.fields.now) c.word_at.result.now (word_at 1 c.args.fields.now) _ (c.entry_fault.ensures (word_at 1 c.args.fields.now) pair) c.word_at.ensures refl ∙ c.in_default.is))

pub returns : goal.returns
returns c =
    let judge = entry_conditions deck_limits c.args.state.now c.args.name.now in
    let pair = first_resolved c.args.state.now.rows c.args.fields.now c.args.pairs.now _ _ c.requires.found c.if-fields-lt2.false c.resolved_at.ensures c.word_at.ensures in
    let other = second_resolved c.args.state.now.rows c.args.fields.now c.args.pairs.now _ _ c.requires.found c.if-fields-lt4.false c.resolved_at-2.ensures c.word_at-2.ensures in
    let none = judged judge [] (word_at 0 c.args.fields.now) (word_at 1 c.args.fields.now) c.word_at.result.now (word_at 1 c.args.fields.now) _ (c.entry_fault.ensures (word_at 1 c.args.fields.now) pair) c.word_at.ensures refl ∙ c.in_default.is in
    sym (second_pair judge c.args.fields.now c.if-fields-lt4.false c.requires.few none ∙ judged judge _ (word_at 2 c.args.fields.now) (word_at 3 c.args.fields.now) c.word_at-2.result.now (word_at 3 c.args.fields.now) _ (c.entry_fault-2.ensures (word_at 3 c.args.fields.now) other) c.word_at-2.ensures refl)

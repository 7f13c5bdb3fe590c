use Rattle.cgl_prooftext.specs.ProofText.{entry_text}
use Rattle.cgl_prooftext.proofs.LongerLaws.{entries_longer, item_turn, items_ended, longer_nothing}
use Rattle.cgl_prooftext.proofs.print.append_entries.Goals as goal

pub loop-entry-init : goal.loop-entry-init
loop-entry-init c = longer_nothing c.append-2.new.self

pub loop-entry-preserved : goal.loop-entry-preserved
loop-entry-preserved c =
    item_turn (entry_text c.args.word.now) c.args.entries.now c.loop-entry.entry-index c.entry-item.result _ _ _ c.loop-entry-test.true c.entry-item.is c.loop-entry.invariant c.append_entry.ensures

pub returns : goal.returns
returns c =
    let entries = items_ended (entry_text c.args.word.now) c.args.entries.now c.loop-entry.entry-index _ _ c.loop-entry-test.false c.loop-entry.invariant in
    entries_longer c.args.words.now c.args.word.now c.args.entries.now _ _ _ _ _ c.append.ensures c.append_count.ensures c.append-2.ensures entries

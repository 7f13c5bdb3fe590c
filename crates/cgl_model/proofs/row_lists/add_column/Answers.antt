use Rattle.std.proofs.Common.{◌∙◌, ap, subst, sym, ◌+◌, [], List, arith}
use Rattle.std.proofs.lemmas.List.{get_or_default}
use Rattle.cgl_model.proofs.RowListLaws.{AllGathered, Entries, gather, skip, with_entry}
use Rattle.cgl_model.proofs.row_lists.add_column.Goals as goal
use Rattle.cgl_model.proofs.row_lists.add_column.Goals.{then-row-lists+in_ok-add_entry, else-row-lists}

pub loop-entry-preserved : goal.loop-entry-preserved
loop-entry-preserved c =
    record {
      size = omega arith;
      gathered = elim c.if-row-lists.branch [
        | then-row-lists+in_ok-add_entry w ↦
            gather c.args.lists.now c.loop-entry.lists c.if-row-lists.lists c.args.column c.args.entries.now c.loop-entry.entry-index c.entry-item.result w.add_entry.new.list
            c.loop-entry.invariant.size c.requires (omega arith) c.entry-item.is w.if-row-lists.true
            (w.in_ok-add_entry.ensures ∙ ap (with_entry c.args.column c.entry-item.result.1) (get_or_default c.loop-entry.lists c.entry-item.result.0 _ [] w.if-row-lists.true)) w.lists-is c.loop-entry.invariant.gathered
        | else-row-lists w ↦
            let F : List Entries → Type 0 = λ lists. AllGathered c.args.lists.now lists c.args.column c.args.entries.now (c.loop-entry.entry-index + 1) in
            subst F (sym w.lists-is)
            (skip c.args.lists.now c.loop-entry.lists c.args.column c.args.entries.now c.loop-entry.entry-index c.entry-item.result (omega arith) c.entry-item.is w.if-row-lists.false c.loop-entry.invariant.gathered)
      ];
    }

use Rattle.std.proofs.Common.{◌≡◌, ℕ, ◌++◌, ◌∙◌, ap, subst, sym, [], ◌<◌, List, length, get_or, take, arith, ◌+◌}
use Rattle.cgl_model.specs.RowEntries.{entry_at, onto_entries, row_entries_from}
use Rattle.cgl_model.proofs.RowListLaws.{Entries, all_written, earlier_columns, later_column}
use Rattle.cgl_model.proofs.row_lists.entries_of_rows.Goals as goal

pub add_column-requires : goal.add_column-requires
add_column-requires c = λ r h.
    let size = ap length c.as_mut_slice.ensures.value in
    earlier_columns c.args.m.now.cols r c.loop-j.j _ (ap (λ xs. get_or xs r []) c.as_mut_slice.ensures.value ∙ c.loop-j.invariant.gathered r (omega (arith, h, size)))

pub loop-j-preserved : goal.loop-j-preserved
loop-j-preserved c =
    let columns = c.as_slice-column-items.ensures in
    let count = ap length columns in
    let size = c.add_column.auto.lists ∙ ap length c.as_mut_slice.ensures.value in
    let written = all_written c.loop-j.lists.items c.add_column.new.lists c.loop-j.lists.len c.loop-j.lists.ok.0 size in
    let F : List Entries → Type 0 = λ lists. (r : ℕ) → r < length lists → get_or lists r [] ≡ row_entries_from r 0 (take (c.loop-j.j + 1) c.args.m.now.cols) in
    record {
      size = ap length written ∙ size ∙ c.loop-j.invariant.size;
      gathered = subst F (sym written) (λ r h.
          let before = ap (λ xs. get_or xs r []) c.as_mut_slice.ensures.value ∙ c.loop-j.invariant.gathered r (omega (arith, h, size)) in
          later_column c.args.m.now.cols r c.loop-j.j c.column-item.result (get_or c.as_mut_slice.result.now r []) _ (omega (arith, count))
          (c.column-item.is ∙ ap (λ xs. get_or xs c.loop-j.j c.column-item.result) columns) before
          (c.in_ok-add_column.ensures r h ∙ ap (λ es. get_or c.as_mut_slice.result.now r [] ++ onto_entries c.loop-j.j (entry_at r es) []) c.as_slice-in-loop-j.ensures));
    }

use Rattle.std.proofs.lemmas.Result.{on_ok_weaker}
use Rattle.cgl_mps.proofs.ResolveLaws.{pairs_pushed, split_first}
use Rattle.cgl_mps.proofs.column_table.ColumnTable.+push_pairs.Goals as goal

pub returns-in_ok-push_pair-in-len1-up : goal.returns-in_ok-push_pair-in-len1-up
returns-in_ok-push_pair-in-len1-up t c =
    on_ok_weaker c.push_pairs.result
    (pairs_pushed c.args.found.now c.first-item.result _ c.args.self.now c.push_pair.new.self c.push_pairs.new.self
    (split_first c.args.found.now _ c.first-item.result c.in-len1-up.len_at_least c.first-item.is) c.in_ok-push_pair-in-len1-up.ensures)
    c.push_pairs.ensures

use Rattle.std.proofs.lemmas.Result.{on_ok_weaker}
use Rattle.cgl_text.specs.Seen.{words}
use Rattle.cgl_decode.specs.Sections.{pairs_of}
use Rattle.cgl_mps.proofs.ColumnTableLaws.{first_pair}
use Rattle.cgl_mps.proofs.ResolveLaws.{none_more, one_more}
use Rattle.cgl_mps.proofs.resolve.+push_pairs.Goals as goal

pub returns-in_default : goal.returns-in_default
returns-in_default t c = none_more c.args.rows.now c.args.pairs.now.items c.args.fields.now c.in_default.len_below

pub returns-in_ok-push_pair-in-len2-up : goal.returns-in_ok-push_pair-in-len2-up
returns-in_ok-push_pair-in-len2-up t c =
    on_ok_weaker c.push_pairs.result
    (one_more c.args.rows.now c.args.pairs.now.items c.push_pair.new.pairs.items c.push_pairs.new.pairs.items _ _ (pairs_of (words c.args.fields.now))
    (first_pair c.args.fields.now _ c.in-len2-up.len_at_least) c.in_ok-push_pair-in-len2-up.ensures)
    c.push_pairs.ensures

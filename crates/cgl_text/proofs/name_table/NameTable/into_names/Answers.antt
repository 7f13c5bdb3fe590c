use Rattle.std.proofs.Common.{◌≡◌, ◌∙◌, map, map-id, rules}
use Rattle.std.proofs.lemmas.Result.{IfOk-at_ok}
use Rattle.std.proofs.lemmas.Iterator.{YieldsList-from_map_by}
use Rattle.std.proofs.lemmas.Iterator.Consumers.{YieldsList-at, YieldsList-from_rest, map_from_collect}
use Rattle.cgl_text.specs.Seen.{owned_word, owned_words}
use Rattle.cgl_text.proofs.name_table.NameTable.into_names.Goals as goal

pub returns : goal.returns
returns c =
    let keys = c.self.inside.names.keys in
    let seen : keys ≡ c.args.self = search rules in
    let collected : owned_words c.in-Ok.names.items ≡ map (λ name. name) keys =
    IfOk-at_ok _ c.in-Ok.is (map_from_collect c.collect.result c.collect.ensures.ran (YieldsList-from_map_by {v = λ name. name} _ owned_word (λ name. name) (YieldsList-at c.map.ensures.source (YieldsList-from_rest keys c.into_iter.ensures.into_iter_gives.0)) c.map.ensures.closure (λ x r q k. search rules))) in
    collected ∙ map-id keys ∙ seen

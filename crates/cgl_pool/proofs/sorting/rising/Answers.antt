use Rattle.std.proofs.lemmas.List.Filters.{dedup_is}
use Rattle.cgl_pool.proofs.SortLaws.{same_key, sorted_keys}
use Rattle.cgl_pool.proofs.sorting.rising.Goals as goal

pub returns : goal.returns
returns c =
    sorted_keys c.args.keys.items _ _ c.sort_unstable.ensures.permutation c.sort_unstable.ensures.sorted (dedup_is same_key _ _ c.dedup.ensures.filtered)

use Rattle.std.proofs.Common.{rules}
use Rattle.std.specs.Ordering.{is_lt}
use Rattle.std.proofs.lemmas.Fn.{always_returns_same, dedup_same}
use Rattle.std.proofs.lemmas.List.Sorted.{ranks_by}
use Rattle.cgl_pool.specs.Listed.{same_cut}
use Rattle.cgl_pool.specs.Sorting.{kept_cmp}
use Rattle.cgl_pool.proofs.OrderLaws.{kept_order}
use Rattle.cgl_pool.proofs.SortLaws.{sorted_listing}
use Rattle.cgl_pool.proofs.sorting.listing.Goals as goal

pub returns : goal.returns
returns c =
    let sorted = c.sort_unstable_by.ensures.sorted (λ a b. is_lt (kept_cmp a b)) (ranks_by kept_order (λ k. k)) (always_returns_same _ _ _ (λ a r f called. search rules)) in
    let kept = dedup_same _ same_cut _ (λ x y b f x' y' called. search rules) _ _ c.dedup_by.ensures.filtered in
    sorted_listing c.args.cuts.items _ _ c.sort_unstable_by.ensures.permutation sorted kept

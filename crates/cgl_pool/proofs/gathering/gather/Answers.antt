use Rattle.std.proofs.Common.{◌∙◌, ap, subst, List}
use Rattle.cgl_pool.specs.declared.kept.Kept.{Kept}
use Rattle.cgl_pool.specs.Listed.{IsListing, key_cmp, sorted_by, wides}
use Rattle.cgl_pool.proofs.ListingLaws.{one_listing}
use Rattle.cgl_pool.proofs.gathering.gather.Goals as goal

pub returns-clause-cuts : goal.returns-clause-cuts
returns-clause-cuts c =
    let listing = subst (λ (cuts : List Kept). IsListing cuts c.listing.result.items) c.in_ok-cuts.ensures.cuts c.listing.ensures in
    c.from_vec.ensures ∙ one_listing c.args.answers.items c.listing.result.items c.requires.distinct listing

pub returns-clause-wide : goal.returns-clause-wide
unfolding wides
returns-clause-wide c = c.from_vec-2.ensures ∙ c.rising.ensures ∙ ap (sorted_by key_cmp) c.in_ok-cuts.ensures.wides

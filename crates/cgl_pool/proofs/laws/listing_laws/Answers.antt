use Rattle.cgl_pool.proofs.ListingLaws.{listing_of, one_listing}
use Rattle.cgl_pool.proofs.OrderLaws.{ineq_same}
use Rattle.cgl_pool.proofs.TaskLaws.{same_listed}
use Rattle.cgl_pool.proofs.WideLaws.{one_list, same_wides, wide_keys_are}
use Rattle.cgl_pool.proofs.laws.listing_laws.Goals as goal

pub returns-clause-cuts : goal.returns-clause-cuts
returns-clause-cuts c = record { listing = listing_of; one = one_listing; order = same_listed; equal = ineq_same }

pub returns-clause-wides : goal.returns-clause-wides
returns-clause-wides c = record { keys = wide_keys_are; one = one_list; order = same_wides }

use Rattle.cgl_knap.proofs.KnownLaws.{no_items, too_heavy, two, all, no_weight, heavier, not_lighter, not_less, not_more, bound, no_bound}
use Rattle.cgl_knap.proofs.known.known_values.Goals as goal

pub returns-clause-no_items : goal.returns-clause-no_items
returns-clause-no_items c = no_items

pub returns-clause-too_heavy : goal.returns-clause-too_heavy
returns-clause-too_heavy c = too_heavy

pub returns-clause-two : goal.returns-clause-two
returns-clause-two c = two

pub returns-clause-all : goal.returns-clause-all
returns-clause-all c = all

pub returns-clause-no_weight : goal.returns-clause-no_weight
returns-clause-no_weight c = no_weight

pub returns-clause-heavier : goal.returns-clause-heavier
returns-clause-heavier c = heavier

pub returns-clause-not_lighter : goal.returns-clause-not_lighter
returns-clause-not_lighter c = not_lighter

pub returns-clause-not_less : goal.returns-clause-not_less
returns-clause-not_less c = not_less

pub returns-clause-not_more : goal.returns-clause-not_more
returns-clause-not_more c = not_more

pub returns-clause-bound : goal.returns-clause-bound
returns-clause-bound c = bound

pub returns-clause-no_bound : goal.returns-clause-no_bound
returns-clause-no_bound c = no_bound

use Rattle.cgl_check.specs.Knapsacks.{leftover, values_of, weights_of}
use Rattle.cgl_check.proofs.KnapValueLaws.{literals_bound}
use Rattle.cgl_check.proofs.laws.knapsack_values.Goals as goal

pub returns : goal.returns
returns c = λ m from claim cap best rising columns signs is greatest.
    let lists = c.knapsacks.ensures.lists m from claim rising columns signs in
    let literals = c.knapsacks.ensures.literals from claim rising signs in
    let bound = literals_bound from claim cap is in
    let value = c.greatest_values.ensures.decides (weights_of from) (values_of from claim) cap best (leftover from claim) greatest in
    ((λ h. value.0 (bound.0 (literals.0 (lists.0 h)))), (λ h. lists.1 (literals.1 (bound.1 (value.1 h)))))

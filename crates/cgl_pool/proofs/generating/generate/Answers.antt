use Rattle.std.proofs.Common.{◌∙◌, ap}
use Rattle.std.proofs.lemmas.Result.{IfOk-weaker}
use Rattle.cgl_pool.specs.Listed.{listed, wides}
use Rattle.cgl_pool.specs.Task.{listed_cuts, wide_keys}
use Rattle.cgl_pool.proofs.generating.generate.Goals as goal

pub returns-clause-listed : goal.returns-clause-listed
unfolding listed_cuts
returns-clause-listed c = IfOk-weaker c.gather.result _ _ (λ gathered e. e ∙ ap listed c.in_ok-answers.ensures.answers) c.gather.ensures.cuts

pub returns-clause-wides : goal.returns-clause-wides
unfolding wide_keys
returns-clause-wides c = IfOk-weaker c.gather.result _ _ (λ gathered e. e ∙ ap wides c.in_ok-answers.ensures.answers) c.gather.ensures.wide

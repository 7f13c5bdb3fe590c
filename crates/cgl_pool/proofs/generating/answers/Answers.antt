use Rattle.std.proofs.Common.{◌∙◌, sym, ap}
use Rattle.std.proofs.lemmas.Result.{IfOk-weaker}
use Rattle.cgl_pool.specs.Generators.{any}
use Rattle.cgl_pool.specs.Served.{all_items}
use Rattle.cgl_pool.proofs.TaskLaws.{all_answers}
use Rattle.cgl_pool.proofs.generating.answers.Goals as goal

pub returns-clause-answers : goal.returns-clause-answers
returns-clause-answers c =
    let t = c.args.task.now in
    let gens = c.generators.result.now in
    let all = ap (λ s. all_items any s gens) c.site.ensures.value ∙ ap (all_items any t.setting) c.generators.ensures.value ∙ sym (all_answers t c.requires) in
    IfOk-weaker c.serve_all.result _ _ (λ given e. e ∙ all) c.serve_all.ensures

use Rattle.cgl_pool.specs.Does.{does}
use Rattle.cgl_pool.proofs.ServedLaws.{served_more}
use Rattle.cgl_pool.proofs.generating.serve_all.Goals as goal

pub loop-generator-preserved : goal.loop-generator-preserved
loop-generator-preserved g c =
    let d = does g.G.Numbered.number_of g.G.Generator.count g.G.Generator.says in
    served_more d c.args.site.now c.args.generators.now c.loop-generator.generator-index c.generator-item.result _ _ c.loop-generator-test.true c.generator-item.is c.loop-generator.invariant c.in_ok-serve.ensures

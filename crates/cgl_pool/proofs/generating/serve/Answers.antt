use Rattle.std.proofs.Common.{arith}
use Rattle.cgl_pool.specs.Does.{does}
use Rattle.cgl_pool.proofs.ServedLaws.{first_more}
use Rattle.cgl_pool.proofs.generating.serve.Goals as goal

pub loop-item-preserved : goal.loop-item-preserved
loop-item-preserved g c =
    let d = does g.G.Numbered.number_of g.G.Generator.count g.G.Generator.says in
    first_more d c.args.site.now c.args.generator.now c.loop-item.item _ _ _ _ (omega arith) c.loop-item.invariant c.in_ok-stamped.ensures c.in_ok-push.ensures

use Rattle.std.proofs.Common.{◌≡◌, take}
use Rattle.cgl_pool.specs.Does.{does}
use Rattle.cgl_pool.specs.Served.{all_items}
use Rattle.cgl_pool.proofs.generating.serve_all.Given as goal

abbrev pub invariant-loop-generator : goal.invariant-loop-generator
invariant-loop-generator g l = l.answers.items ≡ all_items (does g.G.Numbered.number_of g.G.Generator.count g.G.Generator.says) l.site (take l.generator-index l.generators)

use Rattle.std.proofs.Common.{◌≡◌, ◌++◌}
use Rattle.cgl_pool.specs.Does.{does}
use Rattle.cgl_pool.specs.Served.{first_items}
use Rattle.cgl_pool.proofs.generating.serve.Given as goal

-- the items below this one are left
abbrev pub invariant-loop-item : goal.invariant-loop-item
invariant-loop-item g l =
    let d = does g.G.Numbered.number_of g.G.Generator.count g.G.Generator.says in
    l.answers.items ++ first_items d l.site l.generator l.item ≡ l.initial.answers.items ++ first_items d l.site l.generator l.count

use Rattle.std.proofs.Common.{◌∙◌, ap, refl, rules, length, Option, None}
use Rattle.std.specs.Prelude.{replicate}
use Rattle.cgl_num.specs.Fraction.{Fraction}
use Rattle.cgl_model.specs.declared.mip.Model.{Model}
use Rattle.cgl_where.proofs.CarriedLaws.{carries_none}
use Rattle.cgl_where.proofs.carried.Carried.new.Goals as goal

pub returns : goal.returns
returns c =
    let none : Option Fraction = None in
    carries_none c.args.columns.now _
    (c.in-Ok.ensures.items_if_clones_equal (λ y same. search rules)
    ∙ ap (λ n. replicate n none) (ap length c.as_slice.ensures ∙ ap (λ (m : Model). length m.cols) c.columns.view_is))
    c.new.ensures.items refl

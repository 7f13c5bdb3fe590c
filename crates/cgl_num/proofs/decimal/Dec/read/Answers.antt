use Rattle.std.proofs.Common.{refl, sym}
use Rattle.cgl_num.proofs.NumberLawsValue.{out_of_range}
use Rattle.cgl_num.proofs.decimal.Dec.read.Goals as goal

pub returns-in-None-clause-range : goal.returns-in-None-clause-range
returns-in-None-clause-range c =
    let form = c.in-Some.ensures.some in
    let none = sym (c.in-None.ensures c.args.text.now form) in
    ((λ _. (form.number, out_of_range c.args.text.now form.number none)), (λ _. refl))

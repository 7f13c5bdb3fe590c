use Rattle.std.proofs.Common.{◌≡◌, ◌++◌, take, replicate, ap, ◌∙◌}
use Rattle.std.proofs.lemmas.List.{take-replicate}
use Rattle.cgl_num.proofs.decimal.put_zeros.Goals as goal

pub returns-clause-text : goal.returns-clause-text
returns-clause-text c =
    let e : take c.put.result c.put.new.out ≡ take c.args.at c.args.out.now ++ take c.args.k (replicate 30 48) = c.put.ensures.text in
    e ∙ ap (λ z. take c.args.at c.args.out.now ++ z) (take-replicate c.args.k 30 48 c.requires.within)

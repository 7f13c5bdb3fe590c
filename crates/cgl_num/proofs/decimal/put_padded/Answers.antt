use Rattle.std.proofs.Common.{rules, arith, ◌≡◌, ◌≤◌, ◌-◌, ◌++◌, length, take, decimal, replicate, ap, ◌∙◌, append_assoc}
use Rattle.std.proofs.lemmas.Fmt.{length-decimal-le_wide}
use Rattle.cgl_num.proofs.decimal.put_padded.Goals as goal

pub overflow_sub-k : goal.overflow_sub-k
overflow_sub-k c =
    let is : c.as_bytes-text.result.now ≡ decimal c.args.number = search rules in
    let short : length (decimal c.args.number) ≤ c.args.k = length-decimal-le_wide c.args.k c.args.number c.requires.places.0 c.requires.size (omega arith) in
    omega (arith, ap length is, short)

pub put-requires : goal.put-requires
put-requires c =
    let is : c.as_bytes-text.result.now ≡ decimal c.args.number = search rules in
    let short : length (decimal c.args.number) ≤ c.args.k = length-decimal-le_wide c.args.k c.args.number c.requires.places.0 c.requires.size (omega arith) in
    omega (arith, ap length is, short)

pub returns-clause-end : goal.returns-clause-end
returns-clause-end c =
    let is : c.as_bytes-text.result.now ≡ decimal c.args.number = search rules in
    let short : length (decimal c.args.number) ≤ c.args.k = length-decimal-le_wide c.args.k c.args.number c.requires.places.0 c.requires.size (omega arith) in
    omega (arith, ap length is, short)

pub returns-clause-text : goal.returns-clause-text
returns-clause-text c =
    let is : c.as_bytes-text.result.now ≡ decimal c.args.number = search rules in
    c.put.ensures.text ∙ ap (λ t. t ++ c.as_bytes-text.result.now) c.put_zeros-end.ensures.text
    ∙ append_assoc (take c.args.at c.args.out.now) (replicate (c.args.k - length c.as_bytes-text.result.now) 48) c.as_bytes-text.result.now
    ∙ ap (λ t. take c.args.at c.args.out.now ++ (replicate (c.args.k - length t) 48 ++ t)) is

use Rattle.std.proofs.Common.{rules, refl, sym}
use Rattle.cgl_num.proofs.NumberLawsValue.{out_of_range, bound_finite, bound_none}
use Rattle.cgl_num.proofs.decimal.Dec.read_bound.Goals as goal

pub returns-in-Some-decimal-clause-value : goal.returns-in-Some-decimal-clause-value
returns-in-Some-decimal-clause-value c =
    let form = c.in-Some.ensures.some in
    bound_finite c.args.text.now c.in-Some-decimal.number form.number (sym (c.if-reaches.ensures c.args.text.now form))
    (sym (c.in-Some-decimal.ensures c.args.text.now form))

pub returns-in-None-clause-value : goal.returns-in-None-clause-value
returns-in-None-clause-value c =
    let form = c.in-Some.ensures.some in
    bound_none c.args.text.now form.number (sym (c.if-reaches.ensures c.args.text.now form)) (sym (c.in-None.ensures c.args.text.now form))

pub returns-in-None-clause-range : goal.returns-in-None-clause-range
returns-in-None-clause-range c =
    let form = c.in-Some.ensures.some in
    let none = sym (c.in-None.ensures c.args.text.now form) in
    ((λ _. (form.number, (sym (c.if-reaches.ensures c.args.text.now form), out_of_range c.args.text.now form.number none))), (λ _. refl))

pub parse-requires : goal.parse-requires
parse-requires c = search rules

pub returns-in_default-clause-value : goal.returns-in_default-clause-value
returns-in_default-clause-value c = search rules

pub returns-in_default-clause-form : goal.returns-in_default-clause-form
returns-in_default-clause-form c = search rules

pub returns-in_default-clause-range : goal.returns-in_default-clause-range
returns-in_default-clause-range c = search rules

pub reaches-requires : goal.reaches-requires
reaches-requires c = search rules

pub returns-then-reaches-clause-value : goal.returns-then-reaches-clause-value
returns-then-reaches-clause-value c = search rules

pub returns-then-reaches-clause-form : goal.returns-then-reaches-clause-form
returns-then-reaches-clause-form c = search rules

pub returns-then-reaches-clause-range : goal.returns-then-reaches-clause-range
returns-then-reaches-clause-range c = search rules

pub decimal-requires : goal.decimal-requires
decimal-requires c = search rules

pub returns-in-Some-decimal-clause-form : goal.returns-in-Some-decimal-clause-form
returns-in-Some-decimal-clause-form c = search rules

pub returns-in-Some-decimal-clause-range : goal.returns-in-Some-decimal-clause-range
returns-in-Some-decimal-clause-range c = search rules

pub returns-in-None-clause-form : goal.returns-in-None-clause-form
returns-in-None-clause-form c = search rules

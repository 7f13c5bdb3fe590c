use Rattle.std.proofs.Common.{◌∙◌, ⊎_elim, inl, inr, rules}
use Rattle.cgl_num.proofs.OrderLaws.{by_quotients, by_rests, by_no_rest}
use Rattle.cgl_num.proofs.order.+compare_ratios.Goals as goal

pub returns-then-left-right : goal.returns-then-left-right
returns-then-left-right t c = c.cmp.ensures ∙ by_quotients c.args.a c.args.b c.args.c c.args.d c.requires.left c.requires.right c.if-left-right.true

pub returns : goal.returns
returns t c = c.compare_ratios.ensures ∙ by_rests c.args.a c.args.b c.args.c c.args.d (search rules)

pub returns-then-left_rest-eq0 : goal.returns-then-left_rest-eq0
returns-then-left_rest-eq0 t c = c.cmp-then-left_rest-eq0.ensures ∙ by_no_rest c.args.a c.args.b c.args.c c.args.d c.requires.left c.requires.right (search rules) (⊎_elim (λ e. inl e) (λ p. inr p.1) c.then-left_rest-eq0.either)

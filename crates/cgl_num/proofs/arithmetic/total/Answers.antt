use Rattle.std.proofs.Common.{rules, ◌≡◌, ◌<◌, ◌^◌, ◌+ℤ◌, unsigned_abs, to_z, of_z, subst, MatchOption}
use Rattle.std.specs.Int.{w128}
use Rattle.cgl_num.specs.FractionArithmetic.{IsWide}
use Rattle.cgl_num.proofs.arithmetic.total.Goals as goal

pub returns : goal.returns
returns c =
    let is : to_z w128 (of_z w128 c.in_ok-checked_add.field-0) ≡ c.args.a +ℤ c.args.b = search rules in
    subst (λ x. MatchOption c.narrow.result (IsWide x) (λ z. (z ≡ x) × (unsigned_abs z < 2 ^ 127))) is c.narrow.ensures

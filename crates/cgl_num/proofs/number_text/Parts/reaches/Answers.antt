use Rattle.std.proofs.Common.{rules, arith, ◌≡◌, ◌≤◌, sym, ap, ◌∙◌, ◌&&◌, to_z, of_z}
use Rattle.std.specs.Prelude.{pos, int_lt, ◌+ℤ◌}
use Rattle.std.specs.Int.{w128}
use Rattle.std.proofs.lemmas.Int.{ints}
use Rattle.std.proofs.lemmas.Bool.{lt-ltb}
use Rattle.cgl_num.proofs.DecimalLaws.{not_below}
use Rattle.cgl_num.proofs.NumberLawsRange.{reach-is}
use Rattle.cgl_num.proofs.number_text.Parts.reaches.Goals as goal

pub returns-then-self-gt0 : goal.returns-then-self-gt0
returns-then-self-gt0 c text is =
    let power : to_z w128 c.args.power ≡ pos c.args.power = omega (arith, ints) in
    let sum : to_z w128 (of_z w128 c.sum-above.result) ≡ c.args.self.scale +ℤ pos c.args.self.digits.size = search rules in
    let small : c.args.power ≤ 1000 = omega arith in
    ap (λ k. int_lt k (to_z w128 (of_z w128 c.sum-above.result))) power ∙ ap (λ x. int_lt (pos c.args.power) x) sum
    ∙ ap (λ t. t && int_lt (pos c.args.power) (c.args.self.scale +ℤ pos c.args.self.digits.size)) (sym (lt-ltb 0 c.args.self.digits.size (omega arith)))
    ∙ sym (reach-is c.args.power text _ _ _ _ _ is small)

pub returns-else-self-gt0 : goal.returns-else-self-gt0
returns-else-self-gt0 c text is =
    not_below 0 c.args.self.digits.size (omega arith)
    ∙ sym (reach-is c.args.power text _ _ _ _ _ is (omega arith)
    ∙ ap (λ t. t && int_lt (pos c.args.power) (c.args.self.scale +ℤ pos c.args.self.digits.size)) (not_below 0 c.args.self.digits.size (omega arith)))

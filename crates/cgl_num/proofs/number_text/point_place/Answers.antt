use Rattle.std.proofs.Common.{rules, arith, sym, length}
use Rattle.std.proofs.lemmas.List.Sums.{position_or_len_is}
use Rattle.cgl_num.specs.NumberText.{is_point}
use Rattle.cgl_num.proofs.number_text.point_place.Goals as goal

pub returns-then-byte-eq46-clause-place : goal.returns-then-byte-eq46-clause-place
returns-then-byte-eq46-clause-place c =
    sym (position_or_len_is is_point c.args.text.now c.loop-i.i 0 (omega arith) c.loop-i.invariant (λ _. search rules))

pub returns-clause-place : goal.returns-clause-place
returns-clause-place c =
    sym (position_or_len_is is_point c.args.text.now (length c.args.text.now) 0 (omega arith) (λ k h. c.loop-i.invariant k (omega (arith, h))) (λ h. absurd (omega (arith, h))))

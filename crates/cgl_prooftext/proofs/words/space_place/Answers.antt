use Rattle.std.proofs.Common.{rules, arith, sym, length}
use Rattle.std.proofs.lemmas.List.Sums.{position_or_len_is}
use Rattle.cgl_prooftext.specs.LineResult.{is_space}
use Rattle.cgl_prooftext.proofs.words.space_place.Goals as goal

pub returns-then-byte-eq32-clause-place : goal.returns-then-byte-eq32-clause-place
returns-then-byte-eq32-clause-place c =
    sym (position_or_len_is is_space c.args.text.now c.loop-i.i 0 (omega arith) c.loop-i.invariant (λ _. search rules))

pub returns-clause-place : goal.returns-clause-place
returns-clause-place c =
    sym (position_or_len_is is_space c.args.text.now (length c.args.text.now) 0 (omega arith) (λ k h. c.loop-i.invariant k (omega (arith, h))) (λ h. absurd (omega (arith, h))))

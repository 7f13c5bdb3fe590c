use Rattle.std.proofs.Common.{◌≡◌, ℕ, ◌<◌, get_or, false}
use Rattle.cgl_prooftext.specs.LineResult.{is_space}
use Rattle.cgl_prooftext.proofs.words.space_place.Given as goal

abbrev pub invariant-loop-i : goal.invariant-loop-i
invariant-loop-i l = (k : ℕ) → k < l.i → is_space (get_or l.text k 0) ≡ false

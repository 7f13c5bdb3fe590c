use Rattle.std.proofs.Common.{◌≡◌, ℕ, ◌<◌, get_or, false}
use Rattle.cgl_num.specs.NumberText.{is_exponent_letter}
use Rattle.cgl_num.proofs.number_text.letter_place.Given as goal

abbrev pub invariant-loop-i : goal.invariant-loop-i
invariant-loop-i l = (k : ℕ) → k < l.i → is_exponent_letter (get_or l.text k 0) ≡ false

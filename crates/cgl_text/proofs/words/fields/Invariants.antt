use Rattle.std.proofs.Common.{◌≡◌, ◌≤◌, ◌<◌, ◌++◌, ℕ, drop, false, get_or}
use Rattle.cgl_text.specs.Seen.{words}
use Rattle.cgl_text.specs.Text.{fields_of, is_blank}
use Rattle.cgl_text.proofs.words.fields.Given as goal

abbrev pub invariant-loop-i : goal.invariant-loop-i
invariant-loop-i l =
    (words l.found.items ++ fields_of (drop l.start l.fn.line) ≡ fields_of l.fn.line)
    × (l.start ≤ l.i)
    × ((k : ℕ) → l.start ≤ k → k < l.i → is_blank (get_or l.fn.line k 0) ≡ false)

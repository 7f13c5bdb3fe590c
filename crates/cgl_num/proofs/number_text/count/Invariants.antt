use Rattle.std.proofs.Common.{◌≤◌, ◌+◌, ◌++◌, take}
use Rattle.cgl_num.specs.NumberText.{Word, IsCounted}
use Rattle.cgl_num.proofs.number_text.count.Given as goal

abbrev pub invariant-digits : goal.invariant-digits
invariant-digits l = record {
  counted : (before : Word) → IsCounted before l.fn.start.value l.fn.start.zeros l.fn.start.size
      → IsCounted (before ++ take l.byte-index l.text) l.counted.value l.counted.zeros l.counted.size;
  zeros : l.counted.zeros ≤ l.fn.start.zeros + l.byte-index;
  size : l.counted.size ≤ l.fn.start.size + l.byte-index;
}

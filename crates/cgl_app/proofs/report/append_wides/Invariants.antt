use Rattle.std.proofs.Common.{flat_map, take}
use Rattle.cgl_text.specs.Growth.{Grows}
use Rattle.cgl_app.specs.Report.{wide_line}
use Rattle.cgl_app.proofs.report.append_wides.Given as goal

abbrev pub invariant-loop-key : goal.invariant-loop-key
invariant-loop-key l = Grows (flat_map wide_line (take l.key-index l.wides)) l.fn.text l.text

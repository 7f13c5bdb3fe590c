use Rattle.std.proofs.Common.{◌≡◌, drop}
use Rattle.std.specs.List.{list_any}
use Rattle.cgl_decode.specs.Records.{same_section}
use Rattle.cgl_mps.proofs.judge.has_header.Given as goal

abbrev pub invariant-loop-header : goal.invariant-loop-header
invariant-loop-header l = list_any (same_section l.section) (drop l.header-index l.header-items) ≡ list_any (same_section l.section) l.state.headers

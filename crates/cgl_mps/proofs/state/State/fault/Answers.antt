use Rattle.std.proofs.Common.{◌∙◌}
use Rattle.cgl_decode.specs.Decode.{deck_limits}
use Rattle.cgl_mps.proofs.StateLaws.{judged_alike}
use Rattle.cgl_mps.proofs.state.State.fault.Goals as goal

pub returns : goal.returns
returns c = λ before stands. c.line_fault.ensures ∙ judged_alike deck_limits before c.args.self.now c.args.r.now stands

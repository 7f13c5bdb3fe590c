use Rattle.cgl_outside.specs.ScriptLaws.{unread_by}
use Rattle.cgl_app.proofs.steps.read_point.Goals as goal

pub returns-in-Err-clause-refused : goal.returns-in-Err-clause-refused
returns-in-Err-clause-refused g c =
    let says = c.in-Err.ensures in
    unread_by _ _ _ _ _ _ _ _ c.in-Err.error _ c.refusal_of.ensures says.fault says.read_fault says.reads says.excused

use Rattle.cgl_app.proofs.SaidLaws.{says_all, says_part}
use Rattle.cgl_app.proofs.say_entry.say_entry.Goals as goal

pub returns-in-Err : goal.returns-in-Err
returns-in-Err g c = says_part _ _ _ _ _ c.in-Err.ensures.err

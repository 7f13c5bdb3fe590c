use Rattle.std.proofs.Common.{◌∙◌, sym}
use Rattle.cgl_app.proofs.say.say_overflow.Goals as goal

pub returns : goal.returns
returns g c = rw (sym (c.as_bytes.ensures.value ∙ c.format.ensures.text)) c.say.ensures

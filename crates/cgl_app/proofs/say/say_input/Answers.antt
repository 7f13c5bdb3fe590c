use Rattle.std.proofs.Common.{◌∙◌, sym}
use Rattle.cgl_app.proofs.say.say_input.Goals as goal

pub returns : goal.returns
returns g c =
    let line = c.as_bytes-2.ensures.value ∙ c.format.ensures.text in
    let kind = c.as_bytes-3.ensures.value ∙ c.format-2.ensures.text in
    rw (sym c.as_bytes.ensures.value, sym line, sym kind) c.say.ensures

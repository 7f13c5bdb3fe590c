use Rattle.cgl_text.proofs.TextLaws.{other_blank}
use Rattle.cgl_text.proofs.words.is_blank.Goals as goal

pub returns-else-b-eq9 : goal.returns-else-b-eq9
returns-else-b-eq9 c = other_blank c.args.b c.if-b-eq9.false

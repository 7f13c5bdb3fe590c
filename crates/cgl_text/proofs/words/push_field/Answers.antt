use Rattle.std.proofs.Common.{refl}
use Rattle.cgl_text.proofs.TextLaws.{run_pushed}
use Rattle.cgl_text.proofs.words.push_field.Goals as goal

pub returns-in-Ok : goal.returns-in-Ok
returns-in-Ok c = run_pushed c.args.line.now c.args.start c.args.end _ _ _ c.if-start-end.true c.requires.line c.requires.run c.requires.ends c.in-Ok.ensures.ok refl

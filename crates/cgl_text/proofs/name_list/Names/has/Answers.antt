use Rattle.std.proofs.Common.{ap, ◌∙◌, is_some, bytes_eq}
use Rattle.cgl_text.proofs.NameLaws.{is_found}
use Rattle.cgl_text.proofs.name_list.Names.has.Goals as goal

pub returns : goal.returns
returns c = c.is_some.ensures ∙ ap is_some c.find.ensures ∙ is_found (bytes_eq c.args.name.now) c.args.self.now

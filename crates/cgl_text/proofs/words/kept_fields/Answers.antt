use Rattle.std.proofs.Common.{ap, sym, ◌∙◌, arith}
use Rattle.cgl_text.specs.Seen.{words}
use Rattle.cgl_text.proofs.TextLaws.{comment_is}
use Rattle.cgl_text.proofs.words.kept_fields.Goals as goal

pub returns-then-first-eq42 : goal.returns-then-first-eq42
returns-then-first-eq42 c = ap words c.new-then-first-eq42.ensures.items ∙ sym (comment_is c.args.line.now (omega arith) (omega arith))

use Rattle.std.proofs.Common.{ap, not}
use Rattle.cgl_mps.proofs.WordLaws.{header_read}
use Rattle.cgl_mps.proofs.records.is_header.Goals as goal

pub returns-then-not-begins_blank : goal.returns-then-not-begins_blank
returns-then-not-begins_blank c = header_read c.args.line.now c.begins_blank.result c.is_empty.result c.args.fields.now c.requires c.begins_blank.ensures (ap not c.if-not-begins_blank.true) c.is_empty.ensures

use Rattle.std.proofs.Common.{sym}
use Rattle.cgl_gen.proofs.MemberLaws.{integer_at, integer_past}
use Rattle.cgl_gen.proofs.columns.is_integer.Goals as goal

pub returns-in-Some : goal.returns-in-Some
returns-in-Some c =
    let lookup = c.in-Some.ensures.lookup in
    integer_at c.args.model.now c.as_slice.result.now c.args.column _ _ c.as_slice.ensures (sym lookup.0) lookup.1

pub returns-in-None : goal.returns-in-None
returns-in-None c =
    let lookup = c.in-None.ensures.lookup in
    integer_past c.args.model.now c.as_slice.result.now c.args.column c.as_slice.ensures (sym lookup.0)

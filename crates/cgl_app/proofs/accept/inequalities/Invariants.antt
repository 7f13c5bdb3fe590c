use Rattle.std.proofs.Common.{◌≡◌, take}
use Rattle.cgl_derive.specs.Books.{inequalities}
use Rattle.cgl_app.proofs.accept.inequalities.Given as goal

abbrev pub invariant-loop-entry : goal.invariant-loop-entry
invariant-loop-entry l = l.copies.items ≡ inequalities (take l.entry-index l.entries)

use Rattle.std.proofs.Common.{[], sym, ap, ◌∙◌}
use Rattle.cgl_derive.specs.Books.{inequalities}
use Rattle.cgl_check.specs.Accepted.{shared_refusal}
use Rattle.cgl_check.proofs.BookWalkLaws.{passed_over}
use Rattle.cgl_check.proofs.book.check_book.Goals as goal

pub check_cuts-requires-clause-shared : goal.check_cuts-requires-clause-shared
check_cuts-requires-clause-shared c =
    let m = c.args.m.now in
    let entries = c.args.book.now.shared in
    let claims = c.as_slice-claims.ensures.value ∙ c.in-Ok.ensures ∙ ap inequalities c.as_slice.ensures in
    let none = sym (ap (shared_refusal m [] 0) c.as_slice-2.ensures) ∙ c.in_default-check_shared.ensures.ok in
    passed_over m entries c.as_slice-claims.result.now claims none

use Rattle.std.proofs.Common.{◌≡◌, List, [], take, Some, None, sym, ◌∙◌, subst}
use Rattle.cgl_model.specs.declared.linear.Ineq.{Ineq}
use Rattle.cgl_derive.specs.Books.{inequalities}
use Rattle.cgl_check.specs.declared.refusal.EntryPlace.TheVariants.{Shared}
use Rattle.cgl_check.specs.Accepted.{IfRefused, entry_failure, refused, shared_refusal}
use Rattle.cgl_check.specs.Tests.{AreOverColumns}
use Rattle.cgl_check.proofs.BookWalkLaws.{claims_front, entry_from, shared_over, shared_passed, shared_stopped, told_of}
use Rattle.cgl_check.proofs.book.check_shared.Goals as goal

pub check_entry-requires-clause-shared : goal.check_entry-requires-clause-shared
check_entry-requires-clause-shared c =
    subst (AreOverColumns c.args.m.now) (sym (claims_front c.args.claims.now c.args.entries.now c.loop-k.k c.requires.claims)) c.loop-k.invariant.over

pub returns-in-Err-clause-err : goal.returns-in-Err-clause-err
returns-in-Err-clause-err c =
    let m = c.args.m.now in
    let entries = c.args.entries.now in
    let k = c.loop-k.k in
    let entry = c.index-entries-k.result in
    let there = entry_from entries k entry c.loop-k-test.true c.index-entries-k.is in
    let front = claims_front c.args.claims.now entries k c.requires.claims in
    let P : List Ineq → Type 0 = λ before. IfRefused c.in-Err.e (λ refusal. refused (Shared k) (entry_failure m before entry) ≡ Some refusal) in
    told_of c.in-Err.e (refused (Shared k) (entry_failure m (inequalities (take k entries)) entry)) (shared_refusal m [] 0 entries)
    (λ r is. c.loop-k.invariant.refusal ∙ shared_stopped m entries k entry r there is) (subst P front c.in-Err.ensures.err)

pub loop-k-preserved : goal.loop-k-preserved
loop-k-preserved c =
    let m = c.args.m.now in
    let entries = c.args.entries.now in
    let k = c.loop-k.k in
    let entry = c.index-entries-k.result in
    let there = entry_from entries k entry c.loop-k-test.true c.index-entries-k.is in
    let front = claims_front c.args.claims.now entries k c.requires.claims in
    let P : List Ineq → Type 0 = λ before. entry_failure m before entry ≡ None in
    let none = subst P front c.in_default.ensures.ok in
    record {
      refusal = c.loop-k.invariant.refusal ∙ shared_passed m entries k entry there none;
      over = shared_over m entries k entry there none c.loop-k.invariant.over;
      work = c.in_default.ensures.work ∙ c.loop-k.invariant.work;
    }

use Rattle.cgl_app.specs.Refusals.{entry_line}
use Rattle.cgl_app.proofs.SaidLaws.{broken_first, broken_second, said_both, then_broken, then_said}
use Rattle.cgl_app.proofs.say_entry.put_entry.Goals as goal

pub returns-in_default-clause-err : goal.returns-in_default-clause-err
unfolding entry_line
returns-in_default-clause-err g c = broken_first _ _ _ _ _ _ (broken_first _ _ _ _ _ _ c.in_default.ensures.err)

pub returns-in_default-put_path-clause-err : goal.returns-in_default-put_path-clause-err
unfolding entry_line
returns-in_default-put_path-clause-err g c = broken_first _ _ _ _ _ _ (broken_second _ _ _ _ _ _ _ _ c.in-Ok.ensures.ok (rw c.as_slice.ensures.value at c.in_default-put_path.ensures.err))

pub returns-clause-ok : goal.returns-clause-ok
unfolding entry_line
returns-clause-ok g c = then_said c.put_tail.result _ _ _ _ _ _ _ _ (said_both _ _ _ _ _ _ _ _ c.in-Ok.ensures.ok (rw c.as_slice.ensures.value at c.in-Ok-put_path.ensures.ok)) c.put_tail.ensures.ok

pub returns-clause-err : goal.returns-clause-err
unfolding entry_line
returns-clause-err g c = then_broken c.put_tail.result _ _ _ _ _ _ _ _ (said_both _ _ _ _ _ _ _ _ c.in-Ok.ensures.ok (rw c.as_slice.ensures.value at c.in-Ok-put_path.ensures.ok)) c.put_tail.ensures.err

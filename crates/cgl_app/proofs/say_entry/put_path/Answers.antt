use Rattle.std.proofs.Common.{flat_map}
use Rattle.cgl_app.specs.Refusals.{behind_point}
use Rattle.cgl_app.proofs.PathLaws.{no_path, path_of}
use Rattle.cgl_app.proofs.SaidLaws.{broken_first, then_broken, then_said}
use Rattle.cgl_app.proofs.say_entry.put_path.Goals as goal

pub returns-in_default-clause-ok : goal.returns-in_default-clause-ok
returns-in_default-clause-ok g c = rw (no_path c.args.path.now c.in_default.ensures.cases) at c.put_all.ensures.ok

pub returns-in_default-clause-err : goal.returns-in_default-clause-err
returns-in_default-clause-err g c = rw (no_path c.args.path.now c.in_default.ensures.cases) at c.put_all.ensures.err

pub returns-in_default-put_place-clause-err : goal.returns-in_default-put_place-clause-err
returns-in_default-put_place-clause-err g c =
    rw (path_of c.args.path.now c.in-Some.first.now c.in-Some.rest.now c.in-Some.ensures.cases.0)
    at (broken_first _ _ _ _ _ (flat_map behind_point c.in-Some.rest.now) c.in_default-put_place.ensures.err)

pub returns-clause-ok : goal.returns-clause-ok
returns-clause-ok g c =
    rw (path_of c.args.path.now c.in-Some.first.now c.in-Some.rest.now c.in-Some.ensures.cases.0)
    at (then_said c.put_places.result _ _ _ _ _ _ _ _ c.in-Ok.ensures.ok c.put_places.ensures.ok)

pub returns-clause-err : goal.returns-clause-err
returns-clause-err g c =
    rw (path_of c.args.path.now c.in-Some.first.now c.in-Some.rest.now c.in-Some.ensures.cases.0)
    at (then_broken c.put_places.result _ _ _ _ _ _ _ _ c.in-Ok.ensures.ok c.put_places.ensures.err)

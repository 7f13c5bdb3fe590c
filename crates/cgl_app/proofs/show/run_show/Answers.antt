use Rattle.std.proofs.Common.{Some, None, refl, sym}
use Rattle.cgl_app.proofs.show.run_show.Goals as goal

pub returns-in-Ok : goal.returns-in-Ok
returns-in-Ok g c = record { end = None; came = c.in-Ok.ensures; status_is = refl; tells = (refl, refl) }

pub returns-in-Err : goal.returns-in-Err
returns-in-Err g c = record {
  end = Some c.in-Err.refusal;
  came = c.in-Err.ensures;
  status_is = c.status.ensures;
  tells = rw (sym c.name_in.ensures) c.say_why.ensures;
}

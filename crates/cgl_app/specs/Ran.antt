-- What a command came to: how its script ended, the status, and the line on `err`.
use Rattle.std.specs.Prelude.{◌≡◌, ℕ, List, Option}
use Rattle.cgl_outside.specs.Script.{Came, Script}
use Rattle.cgl_outside.specs.View.{View}
use Rattle.cgl_app.specs.declared.refusal.Refusal.{Refusal}
use Rattle.cgl_app.specs.declared.refusal.Refusal.TheVariants.{Memory}
use Rattle.cgl_app.specs.Refusals.{Tells, status_of}

-- the script came to this end; the status and the line on `err` are that end's
pub record Ran {F : Type 0} (name : F → List ℕ) (script : Script (Refusal F)) (before after : View) (told now : Option (List ℕ)) (faults count status : ℕ) : Type 0 where
  pub end : Option (Refusal F)
  pub came : Came Memory script before after end
  pub status_is : status ≡ status_of end
  pub tells : Tells name told now faults count end

-- What an output got of a text that is put in pieces.
use Rattle.std.specs.Prelude.{◌≡◌, ℕ, List, take, Option}
use Rattle.cgl_outside.specs.Shelf.{Rose}
use Rattle.cgl_outside.specs.Sink.{with_put}

-- all of it
pub record IsSaid (told now : Option (List ℕ)) (faults count : ℕ) (text : List ℕ) : Type 0 where
  pub written : now ≡ with_put told text
  pub faults_are : count ≡ faults

-- a first part of it, and a put failed
pub record IsBroken (told now : Option (List ℕ)) (faults count : ℕ) (text : List ℕ) : Type 0 where
  pub kept : ℕ
  pub written : now ≡ with_put told (take kept text)
  pub rose : Rose faults count

-- What the files and the outputs of the system are to a proof: how often calls of each kind have failed.
use Rattle.std.specs.Prelude.{ℕ, Bool}

pub record DirFaults : Type 0 where
  pub reads : ℕ
  pub writes : ℕ

pub record StdFaults : Type 0 where
  pub is_error : Bool
  pub faults : ℕ

-- What the laws of the crates below give, and shared inequalities over columns of the model.
use Rattle.std.proofs.Common.{◌≡◌, ◌↔◌, ℕ, ◌≤◌, List, pos}
use Rattle.std.specs.Prelude.{IsTrue}
use Rattle.cgl_model.specs.declared.linear.Ineq.{Ineq}
use Rattle.cgl_model.specs.declared.mip.Model.{Model}
use Rattle.cgl_model.specs.Inequality.{AreColumnsBelow, Term}
use Rattle.cgl_derive.specs.Binary.{HoldsAtBits, holds_at_bits}
use Rattle.cgl_derive.specs.Derives.{coefficient}
use Rattle.cgl_check.specs.Tests.{AreOverColumns}

-- no coefficient stands beyond the columns
abbrev pub NoneBeyond : Type 0
NoneBeyond = (terms : List Term) (n j : ℕ) → AreColumnsBelow n terms → n ≤ j → coefficient j terms ≡ pos 0

-- whether an inequality holds at each point of zeros and ones is a test
abbrev pub BitsAreTested : Type 0
BitsAreTested = (m : Model) (from claim : Ineq) → IsTrue (holds_at_bits m from claim) ↔ HoldsAtBits m from claim

pub record Ground (m : Model) (shared : List Ineq) : Type 0 where
  pub over : AreOverColumns m shared
  pub beyond : NoneBeyond
  pub bits : BitsAreTested

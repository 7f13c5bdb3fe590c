-- What a check works with, so that it takes no memory.
use Rattle.std.specs.Prelude.{◌≡◌, ℕ, ◌≤◌, ◌<◌, List, length, Option, Some, None}
use Rattle.cgl_model.specs.declared.linear.Ineq.{Ineq}
use Rattle.cgl_model.specs.declared.mip.Model.{Model}
use Rattle.cgl_model.specs.IntegerForm.{forms_of}
use Rattle.cgl_derive.specs.declared.step.Knap.{Knap}
use Rattle.cgl_derive.specs.declared.step.Step.{Step}
use Rattle.cgl_derive.specs.Meaning.{meaning}
use Rattle.cgl_check.specs.declared.frames.Frame.{Frame}
use Rattle.cgl_check.specs.Knapsacks.{small_capacity}
use Rattle.cgl_check.specs.Walk.{AreEntered, claims_at, givens_at, knap_at, steps_at}

-- a running sum over so many columns, and a knapsack table of so many places
pub record Room : Type 0 where
  pub columns : ℕ
  pub places : ℕ

abbrev pub IsBelow : ℕ → Option ℕ → Type 0
IsBelow places None = Unit {0}
IsBelow places (Some cap) = cap < places

-- the table has a place for the capacity of what a knapsack step starts from
abbrev pub HasTable : ℕ → Option Ineq → Type 0
HasTable places None = Unit {0}
HasTable places (Some from) = IsBelow places (small_capacity from)

-- for each knapsack step of the derivation, behind at most 64 splits
abbrev pub HasTables : Model → List Ineq → List Step → ℕ → Type 0
HasTables m shared steps places =
    (frames : List Frame) (own : ℕ) (knap : Knap) → AreEntered steps frames → length frames ≤ 64 → knap_at (steps_at steps frames) own ≡ Some knap
    → HasTable places (meaning (forms_of m).sides shared (givens_at steps frames) (claims_at steps frames own) knap.from)

-- no table of fewer places serves them
abbrev pub IsLeastTable : Model → List Ineq → List Step → ℕ → Type 0
IsLeastTable m shared steps places = (others : ℕ) → HasTables m shared steps others → places ≤ others

pub record IsRoomFor (m : Model) (shared : List Ineq) (steps : List Step) (room : Room) : Type 0 where
  pub columns : room.columns ≡ length m.cols
  pub tables : HasTables m shared steps room.places

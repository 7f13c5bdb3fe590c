pub mod FaultLaws
pub mod WordLaws
pub mod PushLaws
pub mod CarriedLaws
mod PlacedLaws
mod PairTableLaws
mod BoundTableLaws
pub mod ColumnTableLaws
pub mod ResolveLaws
pub mod StateLaws
pub mod TakeLaws
pub mod ArmLaws
pub mod MadeLaws
pub mod LoopLaws
pub mod NextLaws

pub mod Text
pub mod Seen
pub mod Places
pub mod Conditions
pub mod Growth
pub mod GrowthLaws

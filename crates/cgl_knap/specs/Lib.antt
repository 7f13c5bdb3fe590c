pub mod Subset
pub mod Greatest
pub mod Cover
pub mod LeastCost

pub mod Seen
pub mod Carried
pub mod Tables
pub mod State
pub mod Made

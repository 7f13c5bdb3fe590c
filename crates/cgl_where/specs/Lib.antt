pub mod PointValue
pub mod PointFile
pub mod Limits
pub mod Reading
pub mod Carried
pub mod Laws
pub mod PointRead

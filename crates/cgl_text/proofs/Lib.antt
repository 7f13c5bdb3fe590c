pub mod TextLaws
pub mod NameLaws
mod PlaceLaws
pub mod FrontLaws
pub mod RecordLaws

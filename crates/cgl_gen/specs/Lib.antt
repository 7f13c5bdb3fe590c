pub mod Setting
pub mod Listable
pub mod CutLaws
pub mod RoundMember
pub mod SidePlaces
pub mod RoundLaws

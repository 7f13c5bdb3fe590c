pub mod CutLaws
pub mod ItemLaws
pub mod MemberLaws

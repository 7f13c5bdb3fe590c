pub mod ProofTextLaws
pub mod LongerLaws
pub mod KnownText
pub mod FieldLaws
pub mod OrderLaws
pub mod NameLaws
pub mod TermLaws

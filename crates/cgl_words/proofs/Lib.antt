mod Rows
mod SplitLaws
pub mod FileLaws

pub mod AboveLaws

pub mod CommandLine
pub mod KnownWords
pub mod Meant
pub mod FileNames

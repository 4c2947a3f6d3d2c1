pub mod Finder
pub mod Theorem

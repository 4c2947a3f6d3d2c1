pub mod Theorem
pub mod Examples

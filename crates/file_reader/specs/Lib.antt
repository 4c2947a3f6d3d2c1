pub mod Limits
pub mod Theorem

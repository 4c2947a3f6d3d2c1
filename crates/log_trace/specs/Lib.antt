pub mod Traced
pub mod Theorem

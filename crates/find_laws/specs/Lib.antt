pub mod Theorem
pub mod Hit

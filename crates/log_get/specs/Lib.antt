pub mod Puts
pub mod Get
pub mod Theorem

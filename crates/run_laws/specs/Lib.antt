pub mod Book
pub mod Run
pub mod Gives
pub mod Theorem

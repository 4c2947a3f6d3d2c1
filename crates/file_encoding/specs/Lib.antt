pub mod Before
pub mod Rewrite
pub mod Theorem
pub mod Examples

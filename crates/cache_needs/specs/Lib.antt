pub mod Needed
pub mod Tables

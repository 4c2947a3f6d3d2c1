pub mod Known
pub mod Settled

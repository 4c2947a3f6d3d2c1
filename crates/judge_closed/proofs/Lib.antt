pub mod ClosedLaws
pub mod OrderLaws

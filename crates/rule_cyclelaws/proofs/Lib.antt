pub mod EpochLaws
pub mod CyclicLaws
pub mod Examples

pub mod RowLaws
pub mod RowSteps
pub mod Theorems
pub mod Examples

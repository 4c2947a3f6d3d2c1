pub mod GetLaws
pub mod GetSteps
pub mod Theorems
pub mod DamageLaws

pub mod FoundLaws
pub mod FindSteps
pub mod TheoremLaws

pub mod TableSteps
pub mod NeedLaws
pub mod NeedSteps

pub mod ChoiceLaws
pub mod ChoiceSteps

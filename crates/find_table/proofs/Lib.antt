pub mod ForbidLaws
pub mod MarkLaws
pub mod TableSteps

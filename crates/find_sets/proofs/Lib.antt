pub mod RuleSteps
pub mod KeepLaws

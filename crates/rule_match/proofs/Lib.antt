pub mod MatchSteps

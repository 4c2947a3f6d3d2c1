pub mod CandidateSteps

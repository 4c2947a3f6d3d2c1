pub mod ProgramLaws
pub mod BackLaws
pub mod TraceSteps

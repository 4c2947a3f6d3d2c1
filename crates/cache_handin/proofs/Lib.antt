pub mod HandInSteps

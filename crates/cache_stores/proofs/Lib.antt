pub mod AppendSteps
pub mod StoreSteps

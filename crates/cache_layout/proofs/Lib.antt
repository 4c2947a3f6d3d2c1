pub mod FramedSteps
pub mod LayoutSteps

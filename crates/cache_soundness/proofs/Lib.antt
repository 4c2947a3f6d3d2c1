pub mod FramedLaws
pub mod PartSteps
pub mod SoundSteps

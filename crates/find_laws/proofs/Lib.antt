pub mod OrderLaws
pub mod CandidateLaws
pub mod CutLaws
pub mod ChosenLaws
pub mod PickedLaws
pub mod PartLaws
pub mod HitLaws

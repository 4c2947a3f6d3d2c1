pub mod HoldableLaws
pub mod KeepLaws
pub mod RefusalLaws
pub mod OpenLaws
pub mod SoundTheorems
pub mod SoundExamples

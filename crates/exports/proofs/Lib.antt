pub mod BitLaws
pub mod OldLaws

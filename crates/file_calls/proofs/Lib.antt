pub mod FileLaws
pub mod TheoremLaws

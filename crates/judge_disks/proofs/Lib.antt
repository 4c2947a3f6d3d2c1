pub mod DiskSteps
pub mod RestoreLaws
pub mod LastLaws

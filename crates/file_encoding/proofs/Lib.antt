pub mod PartLaws
pub mod RunLaws
pub mod ReadLaws
pub mod FitLaws
pub mod BytesLaws
pub mod BeforeLaws
pub mod RewriteLaws
pub mod Examples

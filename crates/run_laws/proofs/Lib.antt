pub mod BookLaws
pub mod DiskLaws
pub mod StepLaws
pub mod GivesLaws
pub mod CallLaws
pub mod MomentLaws
pub mod RunLaws

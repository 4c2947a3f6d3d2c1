pub mod MaskSteps
pub mod RankSteps
pub mod RankLaws
pub mod MaskLaws
pub mod ColumnLaws

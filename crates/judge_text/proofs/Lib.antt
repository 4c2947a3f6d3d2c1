pub mod WriteLaws
pub mod LineLaws
pub mod TextLaws
pub mod PrefixLaws
pub mod MeaningLaws

pub mod GeneralLaws
pub mod EachLaws
pub mod EntryLaws
pub mod LayoutLaws
pub mod ClauseLaws
pub mod SoundLaws

pub mod MarkLaws
pub mod RankLists
pub mod BlameLaws

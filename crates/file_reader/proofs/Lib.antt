pub mod LimitLaws
pub mod ReadLaws
pub mod TellsLaws
pub mod PrefixLaws
pub mod CallerLaws

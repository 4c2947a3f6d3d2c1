pub mod Entries
pub mod State
pub mod Sound
pub mod Calls

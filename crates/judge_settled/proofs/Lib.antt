pub mod AnswerLaws
pub mod SettledLaws
pub mod RunLaws
pub mod AskLaws

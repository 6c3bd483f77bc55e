pub mod AnswerLaws
pub mod CommandLaws
pub mod OutcomeLaws

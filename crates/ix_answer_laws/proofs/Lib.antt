pub mod AnswerThere
pub mod Commands
pub mod Firsts
pub mod Offsets
pub mod OneAnswer
pub mod Refusals

pub mod Answers
pub mod Calls
pub mod Examples
pub mod Laws
pub mod Sights
pub mod TableSteps
pub mod Tables

pub mod Changes
pub mod Closings
pub mod Listed
pub mod SmallOpening
pub mod SmallSteps
pub mod Tellings
pub mod Turns

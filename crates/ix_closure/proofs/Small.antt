-- Worked examples.
pub mod SmallAlternatives
pub mod SmallEvents
pub mod SmallStates
pub mod SmallSteps
pub mod SmallUntidy

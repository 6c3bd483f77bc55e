-- The steps that a fact brings.
pub mod BroughtSteps
pub mod CoreSteps
pub mod DescriptorSteps
pub mod DueCauses
pub mod DueClosed
pub mod FirstSlots
pub mod NewlyDue
pub mod OneOutcome
pub mod Readiness
pub mod SomeOutcome
pub mod StepLogs

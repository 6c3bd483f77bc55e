pub mod Answers
pub mod Compiled
pub mod Examples
pub mod Faults
pub mod Parsed
pub mod PlanFor
pub mod Refusals

-- How many choices there are at most.
pub mod ClosureWeights
pub mod FactsOnce
pub mod FewChoices
pub mod FewDescriptors
pub mod LogCounts
pub mod Progress
pub mod StepWeights
pub mod Weights

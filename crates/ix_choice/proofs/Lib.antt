pub mod Ascending
pub mod Doing
pub mod ForestFacts
pub mod Remaining
pub mod SlotFacts
pub mod SmallChoices
pub mod SmallTasks

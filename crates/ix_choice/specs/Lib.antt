pub mod Examples
pub mod SlotLaws
pub mod SlotTrees
pub mod TaskLaws
pub mod Tasks

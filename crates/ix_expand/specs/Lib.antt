pub mod Examples
pub mod Growth
pub mod Laws
pub mod Sound
pub mod SlotCounts

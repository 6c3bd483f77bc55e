pub mod ClosedLaws
pub mod PartLists
pub mod Reached
pub mod SlotLaws
pub mod SmallParts
pub mod TwoWays
pub mod UsefulLaws

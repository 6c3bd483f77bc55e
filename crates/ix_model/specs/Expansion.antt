-- The numbered rules, their slots, and trees over them.
pub mod Expanded
pub mod FlatDerives
pub mod FlatHeights
pub mod FlatOrder
pub mod FlatTrees
pub mod Lift
pub mod Lower
pub mod Numbered
pub mod Numbering
pub mod Parts
pub mod Planned
pub mod SlotPlaces
pub mod Slots
pub mod Walk

pub mod Answering
pub mod DescriptorCounts
pub mod FurthestDots
pub mod SmallCounts
pub mod SubtreeCounts

pub mod Inversions
pub mod SmallClosures
pub mod SmallConforming
pub mod SmallPlans
pub mod SmallTexts

pub mod CharRanges
pub mod Gains
pub mod Kinds
pub mod SetOf

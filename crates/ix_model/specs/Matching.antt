-- What the terminals of a grammar match.
pub mod Classes
pub mod Codes
pub mod Ranges
pub mod Sets
pub mod SharedRanges
pub mod Terminals

pub mod ByTests
pub mod FactorLists
pub mod Judging
pub mod SpelledNumbers

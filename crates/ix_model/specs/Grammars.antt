-- What stands in a grammar, and what keeps one from conforming.
pub mod Breach
pub mod Factors
pub mod Names
pub mod Size
pub mod Written

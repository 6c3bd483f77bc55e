-- The table of answers.
pub mod Answer
pub mod CommandLine
pub mod Decoding
pub mod Limits
pub mod Outcome
pub mod Places
pub mod Sample

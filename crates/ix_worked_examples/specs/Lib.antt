pub mod Ends
pub mod Rivals
pub mod SmallWalks

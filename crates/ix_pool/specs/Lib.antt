pub mod Asking
pub mod Counts
pub mod Hands
pub mod Lists

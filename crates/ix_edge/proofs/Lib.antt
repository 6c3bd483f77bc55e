pub mod Decoded
pub mod Held
pub mod Named
pub mod Raised

pub mod Examples
pub mod Furthest
pub mod OffsetLaws

pub mod Examples
pub mod Items
pub mod Least
pub mod Refusals
pub mod Top

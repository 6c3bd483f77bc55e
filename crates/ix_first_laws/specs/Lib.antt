pub mod Bounded
pub mod Laws
pub mod Least
pub mod Nested
pub mod SmallLists

pub mod Adopting
pub mod Balancing
pub mod Closing
pub mod Due
pub mod Lists
pub mod Small
pub mod Tidying
pub mod Weighing

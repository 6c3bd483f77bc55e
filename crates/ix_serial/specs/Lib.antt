pub mod Cursors
pub mod Examples
pub mod Lent
pub mod Units

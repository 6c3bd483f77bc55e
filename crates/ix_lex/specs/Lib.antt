pub mod Examples
pub mod First
pub mod Laws
pub mod Scans
pub mod Spans
pub mod Spelled
pub mod Strings
pub mod Turns

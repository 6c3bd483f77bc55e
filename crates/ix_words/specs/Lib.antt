pub mod Added
pub mod Asked
pub mod CommandNames
pub mod Examples
pub mod Given
pub mod NameAndParts
pub mod ReaderApp

pub mod CursorSteps
pub mod Documents
pub mod Going
pub mod SmallDocuments

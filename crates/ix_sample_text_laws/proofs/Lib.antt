pub mod Deriving
pub mod DerivedForms
pub mod Documents
pub mod LineGivens
pub mod LineTrees
pub mod NoRefusal
pub mod Summarised

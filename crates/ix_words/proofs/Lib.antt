pub mod FromParts
pub mod Gathered
pub mod Parsing
pub mod ReadAreTaken
pub mod TakenAreRead
pub mod Turns
pub mod WordForms

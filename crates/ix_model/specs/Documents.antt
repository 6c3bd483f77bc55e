-- What a derivation gives to the document, and what keeps it from being one.
pub mod Bare
pub mod Dyn
pub mod FailedXml
pub mod Gives
pub mod WalkGives
pub mod Xml
pub mod XmlNames

pub mod Examples
pub mod Outline
pub mod Parentheses
pub mod Views

pub mod Counting
pub mod Dots
pub mod FewRules
pub mod ManyRules
pub mod WrittenTerminals

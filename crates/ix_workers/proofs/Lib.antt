pub mod Doing
pub mod DoneSteps
pub mod Listed
pub mod Settling
pub mod Starting

-- Quiet states have exactly the closure.
pub mod EveryOrder
pub mod Finishing
pub mod LastSteps
pub mod ListedParts
pub mod OneClosure
pub mod QuietClosure
pub mod QuietRuns

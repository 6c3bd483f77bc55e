-- Each event keeps a state tidy.
pub mod EventTidy
pub mod FirstClaims
pub mod OwedTimes
pub mod TidyArrival
pub mod TidyCauses
pub mod TidyClaim
pub mod TidyEdge
pub mod TidyEnd
pub mod TidyKnown
pub mod TidyStep

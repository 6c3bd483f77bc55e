-- Lists of facts and steps.
pub mod Appends
pub mod ClusterLists
pub mod ListCounts
pub mod ListMembers
pub mod ListUpdates
pub mod OnceEach
pub mod Ranges
pub mod Sublists

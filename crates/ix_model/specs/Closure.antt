-- The closure of a plan, the subtrees of it that derivations use, and how many of each there are.
pub mod Closed
pub mod Counting
pub mod Figures
pub mod Useful

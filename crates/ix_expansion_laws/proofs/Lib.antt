pub mod Children
pub mod Covering
pub mod LiftOfLower
pub mod Lifting
pub mod LowerOfLift
pub mod Lowering
pub mod Rereading
pub mod Walking

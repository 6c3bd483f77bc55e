pub mod Folded
pub mod Measured
pub mod Measures
pub mod Outlines
pub mod Turns
pub mod Views
pub mod WhatIsRead

-- Trees over the written grammar, their order, and how far a text can be read.
pub mod Derives
pub mod Entered
pub mod Heights
pub mod Offset
pub mod Order
pub mod Trees

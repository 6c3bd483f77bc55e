-- What characters spell.
pub mod Characters
pub mod Depth
pub mod Spacing
pub mod Spells
pub mod Words

pub mod CountsOnce
pub mod CountsThere
pub mod FiguresOnce
pub mod FiguresThere
pub mod Places
pub mod SameClosure
pub mod SameRules
pub mod SameTrees

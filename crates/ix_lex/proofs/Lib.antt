pub mod Lexemes
pub mod Quoting
pub mod Scanning
pub mod SmallTokens
pub mod Spelling
pub mod Standing
pub mod Turning

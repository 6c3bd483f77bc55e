pub mod Decks
pub mod Rows
pub mod SmallDecks

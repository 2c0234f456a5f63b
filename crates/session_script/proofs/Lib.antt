pub mod Grammars
pub mod Decks
pub mod Sought

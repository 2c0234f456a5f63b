pub mod Takes
pub mod DeckReads
pub mod Commands
pub mod Seen
pub mod DeviceCodes

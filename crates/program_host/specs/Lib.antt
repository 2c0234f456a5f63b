pub mod Deeds
pub mod Words
pub mod Ends

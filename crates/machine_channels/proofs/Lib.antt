pub mod Away
pub mod Staying

pub mod Codes
pub mod Reading

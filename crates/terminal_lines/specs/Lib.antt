pub mod Typed
pub mod Decoder
pub mod Words
pub mod Script

pub mod Shared
pub mod Running
pub mod Seen
pub mod Keeping
pub mod Saved

pub mod Lives
pub mod Present
pub mod Forgotten
mod Dropped

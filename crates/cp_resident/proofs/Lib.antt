mod Emptied
pub mod CachedProgram
pub mod Refused
pub mod Ran
mod Roomy

pub mod Turns
pub mod Fairness
pub mod Policy
pub mod Saved

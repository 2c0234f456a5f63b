pub mod Holds
pub mod Masks
pub mod Reached
pub mod Shifts
pub mod Told

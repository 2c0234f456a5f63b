pub mod Image
pub mod Faults
pub mod Reading
pub mod Parts
pub mod Told

pub mod Parts
pub mod Confined
pub mod Seats
pub mod DiskCodes

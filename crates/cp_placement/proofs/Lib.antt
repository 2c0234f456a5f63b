pub mod Found
pub mod Seated

pub mod GuestChannels
pub mod Reuse

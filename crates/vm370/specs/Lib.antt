pub mod Goes
pub mod Options
pub mod FollowOptions
pub mod BootFaults
pub mod Histories
pub mod Runs

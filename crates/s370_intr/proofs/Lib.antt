pub mod Instructed
pub mod Runs
pub mod NinePages
pub mod Brings

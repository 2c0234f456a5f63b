pub mod Bare
pub mod Life
pub mod Forgotten

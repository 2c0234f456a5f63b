pub mod Swap
pub mod InputOutput
pub mod Units
pub mod Timer
pub mod Run
pub mod Laws

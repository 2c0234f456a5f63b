pub mod Moving
pub mod Runs
pub mod Steady
pub mod Served
pub mod Keeping
pub mod Knowing
pub mod Framed
pub mod Lending

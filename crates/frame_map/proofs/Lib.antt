pub mod Ended
pub mod Placed
pub mod Printed
pub mod Unmapped

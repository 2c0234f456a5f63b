mod Attached
pub mod Requested
pub mod Printed
pub mod Copies
pub mod Marks
pub mod Attention
pub mod Staying
pub mod Fed
pub mod Loads
pub mod Beside
pub mod Answered
mod OneLife
mod OneReply
mod Started
mod Working
mod Turned
pub mod SameEvent
pub mod DeviceCodes
pub mod Forgotten
pub mod Written
pub mod Lost
pub mod Dropping
pub mod Moved
mod Served

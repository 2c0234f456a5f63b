mod Puts
mod Marks
mod Brought
mod Pages
pub mod Trying
mod Opening
pub mod Flagging
pub mod Holds

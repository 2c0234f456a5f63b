pub mod Stated
mod Refused
mod Noted
mod Restored
mod Unstated
mod Turned
mod OneReply

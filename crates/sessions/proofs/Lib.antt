pub mod Endings
pub mod Lists
pub mod Rest
pub mod Decks
pub mod Written
pub mod Lined
pub mod FileLines
pub mod Stated
pub mod Histories
pub mod Played
mod SingleUnits
pub mod Queues
pub mod Sessions
pub mod Continuing
pub mod Noted
pub mod Joined
pub mod Changes
mod Holding
mod Queuing
pub mod SameLines
mod OneTranscript
pub mod Told
pub mod Whole
pub mod Fair
mod Queued
mod Served
mod Started
pub mod Restored
pub mod Runs

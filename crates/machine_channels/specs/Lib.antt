pub mod Disks
pub mod Channels
pub mod DedicatedChannels

pub mod Places
pub mod Fair
pub mod LineCodes
pub mod Who
pub mod Queues

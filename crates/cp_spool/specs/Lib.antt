pub mod File
pub mod Queues
pub mod Keys
pub mod Reader
pub mod Alike
pub mod Saved
pub mod Forgotten

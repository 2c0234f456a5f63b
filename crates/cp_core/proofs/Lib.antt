pub mod Led
pub mod Systems
pub mod Boots
pub mod Unbooted
pub mod Switches
pub mod Kept
pub mod Worked
pub mod Steps
pub mod Histories
pub mod Loans
mod Alone
mod OneReply
pub mod Owned
pub mod Lending
pub mod Reused
pub mod Forgotten
mod Dropped
mod Keeping
mod SystemCodes
mod Restored

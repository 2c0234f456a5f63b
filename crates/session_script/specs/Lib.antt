pub mod Users
pub mod Cards
pub mod Script
pub mod Grammar

pub mod Rules
pub mod Asked
pub mod Texts
pub mod Imaged
pub mod Framed
pub mod Unreadable
pub mod Fronts
pub mod Exchanges
mod Told
pub mod Causes

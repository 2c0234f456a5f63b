pub mod Guesses
pub mod Account
pub mod Connection
pub mod Turns
pub mod Desk
pub mod Strangers
pub mod History
pub mod Laws

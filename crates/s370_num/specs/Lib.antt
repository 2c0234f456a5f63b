pub mod Address
pub mod Counted
pub mod Ebcdic
pub mod Host

pub mod Nothing
pub mod Readies
pub mod MachineCodes
pub mod Forgotten

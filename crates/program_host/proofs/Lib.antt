pub mod Deeds
pub mod Named

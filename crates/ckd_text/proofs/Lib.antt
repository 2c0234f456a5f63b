pub mod Maps
pub mod Grammars
mod Hosts

pub mod Trial
pub mod Laws
pub mod DryRun
pub mod Holding
pub mod Flags

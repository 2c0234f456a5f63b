pub mod Pages
pub mod DryRun

pub mod Extent
pub mod Placed
pub mod Minidisk
pub mod Kept
pub mod Part
pub mod Projected
pub mod PartLaws
pub mod Saved

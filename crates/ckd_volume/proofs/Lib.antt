pub mod Blanks
pub mod PutBack
pub mod Finding
pub mod Ends
pub mod Moves
pub mod Overlays

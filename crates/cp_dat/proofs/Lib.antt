pub mod Pages
mod Placed
pub mod Brought
mod Counted
pub mod Once
pub mod Copying
pub mod SparsePages
pub mod Written

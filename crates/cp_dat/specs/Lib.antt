pub mod Lent
pub mod Blocks
pub mod Supplied
pub mod Bringing
pub mod Letting
pub mod Laws
pub mod Copies
pub mod Sparse

pub mod Lines
pub mod Words
pub mod Numbers

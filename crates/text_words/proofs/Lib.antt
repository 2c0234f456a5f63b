pub mod Cuts
pub mod Firsts
pub mod FirstWords
pub mod Spellings

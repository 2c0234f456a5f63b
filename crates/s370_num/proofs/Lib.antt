pub mod EbcdicLemmas
pub mod TableLemmas
mod Text

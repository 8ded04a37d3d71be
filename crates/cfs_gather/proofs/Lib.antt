pub mod ListLemmas
pub mod WordForWord

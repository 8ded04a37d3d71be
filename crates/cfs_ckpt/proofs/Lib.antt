pub mod TableLemmas
pub mod PlacedLemmas
pub mod LoadLemmas
pub mod SelectLemmas
pub mod StoreLemmas
pub mod CopyLemmas
pub mod Histories
pub mod Fresh

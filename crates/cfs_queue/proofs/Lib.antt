pub mod QueueLemmas
pub mod RowLemmas
pub mod TestLemmas

pub mod Counting
pub mod Faults
pub mod KindLemmas
pub mod Reading

pub mod RecordLemmas
pub mod Walks
pub mod Standings
pub mod CutLemmas
pub mod AppendLemmas
pub mod Blanks

pub mod Recovered
pub mod Behind
pub mod Held
pub mod Steps
pub mod StoredTrees
pub mod Causes

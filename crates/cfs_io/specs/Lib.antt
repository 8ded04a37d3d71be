pub mod Counts
pub mod Files
pub mod Folder
pub mod Memory
pub mod MemoryFolder
pub mod Saves
pub mod Streams

pub mod Dumped
pub mod Reads
pub mod Stores

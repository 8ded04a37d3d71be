pub mod Free
pub mod Grants
pub mod Removed

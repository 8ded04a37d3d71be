pub mod Causes
pub mod Failures
pub mod Held
pub mod Leaves
pub mod Rows

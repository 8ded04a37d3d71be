pub mod Still
pub mod Stores
pub mod Moments
pub mod Causes

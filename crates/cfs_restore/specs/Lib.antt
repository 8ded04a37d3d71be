pub mod Failures
pub mod Held
pub mod Still

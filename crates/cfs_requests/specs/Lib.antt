pub mod Opens
pub mod Looks
pub mod Made
pub mod Steps

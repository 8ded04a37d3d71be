pub mod Ends
pub mod Orders
pub mod Runs
pub mod Words
pub mod Upgrading

pub mod Lists
pub mod Logs
pub mod Steps
pub mod Seats

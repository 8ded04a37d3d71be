pub mod Allowed
pub mod Orders
pub mod Takes

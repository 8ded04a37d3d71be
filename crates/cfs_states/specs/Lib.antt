pub mod Stored
pub mod Shares
pub mod Begins
pub mod Loads
pub mod Parts
pub mod Laws
pub mod Behind

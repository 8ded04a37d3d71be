pub mod Parts
pub mod Disks
pub mod Calls
pub mod Ends
pub mod Laws

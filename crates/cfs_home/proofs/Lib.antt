pub mod Parts
pub mod Slots
pub mod Blocks
pub mod Disks
pub mod Ends
pub mod Calls
pub mod Behind

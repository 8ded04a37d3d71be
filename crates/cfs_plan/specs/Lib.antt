pub mod Files
pub mod Lists
pub mod Pendings
pub mod Readings
pub mod Mounts

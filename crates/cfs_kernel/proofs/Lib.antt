pub mod Begun
pub mod Keeping
pub mod Lowest
pub mod Nodes
pub mod Opening
pub mod Performing
pub mod Rows

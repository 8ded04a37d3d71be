pub mod Counts
pub mod Jobs
pub mod Ops
pub mod Stands
pub mod Steps
pub mod Tiles
pub mod Views

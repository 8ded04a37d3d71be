pub mod After
pub mod Chain
pub mod Whole

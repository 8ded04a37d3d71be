pub mod Files
pub mod Fitting
pub mod Numbering
pub mod Rounds

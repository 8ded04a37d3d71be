pub mod Blanks
pub mod Whole

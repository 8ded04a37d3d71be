pub mod Blanks
pub mod InOrder

pub mod Blanks
pub mod Follows

pub mod Parts
pub mod Values
pub mod Spelling
pub mod Printing
pub mod Reading

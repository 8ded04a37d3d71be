pub mod Table
pub mod Session
pub mod Script
pub mod Printing
pub mod Reading

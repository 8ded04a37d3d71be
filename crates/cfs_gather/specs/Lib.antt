pub mod Gathered
pub mod Seens
pub mod WordForWord

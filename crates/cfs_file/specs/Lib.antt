pub mod File
pub mod Log
pub mod Span
pub mod Position

pub mod Logs
pub mod Positions
pub mod Spans

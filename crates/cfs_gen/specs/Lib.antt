pub mod Draws
pub mod Kinds
pub mod Lines
pub mod Summary
pub mod Totals
pub mod Workload

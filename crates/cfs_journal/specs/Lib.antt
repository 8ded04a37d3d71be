pub mod Records
pub mod Appends
pub mod Standing
pub mod Journals
pub mod Distinct

pub mod Files
pub mod Images
pub mod Refusals
pub mod Reports

pub mod Changes
pub mod InStep
pub mod Order
pub mod Reached
pub mod Rest
pub mod Laws

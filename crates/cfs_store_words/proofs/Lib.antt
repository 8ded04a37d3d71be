pub mod Calls
pub mod Lists
pub mod Both
pub mod Stores
pub mod Distinct

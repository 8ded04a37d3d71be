pub mod Standing
pub mod Grantings
pub mod Lendings
pub mod Passings
pub mod Knowing
pub mod Readings
pub mod Detachings
pub mod Purgings

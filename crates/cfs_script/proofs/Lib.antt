pub mod Forms
pub mod Lines
pub mod Progress
pub mod Printed
pub mod Rounds

pub mod Joint
pub mod Worlds
pub mod Recovering
pub mod Ends
pub mod Tellable

pub mod Headers
pub mod Pieces
pub mod Standing
pub mod Writings

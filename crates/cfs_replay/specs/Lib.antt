pub mod Reading
pub mod Pieces
pub mod Entries
pub mod Listed
pub mod Plans

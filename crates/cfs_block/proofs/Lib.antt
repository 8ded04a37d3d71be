pub mod Bits
pub mod BlockLemmas
pub mod BlockMoments
pub mod CallsOnBlocks
pub mod DeviceLemmas
pub mod MemBlocks
pub mod ShadowLemmas

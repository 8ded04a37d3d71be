pub mod ReadCalls
pub mod Payloads
pub mod Cutting
pub mod OneEntry
pub mod Replays
pub mod Orders
pub mod Plans

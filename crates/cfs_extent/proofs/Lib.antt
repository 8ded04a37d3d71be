pub mod Held
pub mod Joined
pub mod JoinedAt
pub mod Places
pub mod RunLemmas
pub mod Split
pub mod SplitAt
pub mod Views

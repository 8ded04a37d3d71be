pub mod Front
pub mod Names
pub mod Queues
pub mod Restored
pub mod Settled
pub mod Words

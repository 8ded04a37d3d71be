pub mod Queues
pub mod Records
pub mod States
pub mod Answers
pub mod Storing

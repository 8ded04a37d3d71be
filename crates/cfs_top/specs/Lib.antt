pub mod Answers
pub mod Command
pub mod Order
pub mod Outside
pub mod Play
pub mod Stage
pub mod Statuses
pub mod Text

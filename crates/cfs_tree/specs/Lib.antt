pub mod Nodes
pub mod Shape
pub mod Store
pub mod Turn
pub mod Change
pub mod Spans
pub mod Holding
pub mod Search

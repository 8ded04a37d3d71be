pub mod ChainLemmas
pub mod GateLemmas
pub mod ListLemmas
pub mod ResultLemmas
pub mod ShapeLemmas
pub mod WholeLemmas

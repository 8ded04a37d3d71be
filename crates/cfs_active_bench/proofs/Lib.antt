pub mod BlockWrites

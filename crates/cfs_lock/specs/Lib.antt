pub mod Log
pub mod Views
pub mod Rule
pub mod Stages
pub mod Passes
pub mod Lending

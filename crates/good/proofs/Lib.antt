pub mod Held
pub mod Messages
pub mod Rows
pub mod World
pub mod Chains

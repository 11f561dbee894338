pub mod Made
pub mod Sent
pub mod Plans

pub mod Meaning
pub mod Plans

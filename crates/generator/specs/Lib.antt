pub mod Heard
pub mod Rows

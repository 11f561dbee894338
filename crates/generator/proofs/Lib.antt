pub mod Notes
pub mod Whole
pub mod Rows

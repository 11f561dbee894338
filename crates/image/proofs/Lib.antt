mod Ends
pub mod Widths
pub mod Parts
pub mod Meaning
mod Fields

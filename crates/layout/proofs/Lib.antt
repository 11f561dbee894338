pub mod Widths
pub mod Fits
pub mod Short
pub mod Rows
pub mod World
pub mod Write
pub mod Read
pub mod Zeros

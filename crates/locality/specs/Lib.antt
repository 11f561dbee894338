pub mod Narrow
pub mod Asked

-- what is read of a sheet, and what is written
pub mod Reading
pub mod Writing

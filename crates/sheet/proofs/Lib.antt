pub mod Reading
pub mod Fronts
pub mod Walk
pub mod Writing
pub mod Slices
pub mod Back

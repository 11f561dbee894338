pub mod Table
pub mod Turn
pub mod Wide
pub mod Seat
pub mod Fits
pub mod Local
pub mod Few
pub mod Part

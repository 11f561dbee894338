pub mod Moves
pub mod Playing

-- The public functions that the demands speak of, with their promises; demands 1 and 2. (Demand 3, over the rules alone: rules/specs/Demand3.)
pub mod Code
pub mod Demand1
pub mod Demand2

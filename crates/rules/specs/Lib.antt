-- To be read in this order, beside document 01. The rules are Sets to Steps. WellFormed says which worlds are good. The bytes of a world are crate `layout`.
pub mod Sets
pub mod Stamps
pub mod Messages
pub mod State
pub mod Generators
pub mod Relays
pub mod Desks
pub mod Sending
pub mod Steps
pub mod Coded
pub mod Table
pub mod WellFormed
pub mod Sheets
pub mod Runs
pub mod History
pub mod Demand3
-- document 01's examples, computed; and the history of a run with all that demand 3 speaks of
pub mod Classroom
pub mod Examples
pub mod Overlap

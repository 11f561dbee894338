-- DEMAND 3 over the rules. To read: Safety (the theorem), Corollaries; Ties (how a world is tied to its log) and Log (what justifies an entry).

-- The static half: any log whose entries are justified. No world, no bytes.
pub mod Setting
pub mod Quorums
pub mod Sequences
pub mod Votes
pub mod Facts
pub mod Chain
pub mod Log
pub mod Past
pub mod Agreement
pub mod Stay
pub mod Operations
pub mod Order
pub mod Inserting
pub mod OneOrder
pub mod Static
-- What the log must say of a relay, a generator, a desk and of notes, each kept by each kind of entry
pub mod Entries
pub mod RelayFacts
pub mod GeneratorFacts
pub mod DeskFacts
pub mod Notes
-- The rules' words and the log's
pub mod Lists
pub mod Bridge
pub mod Numbers
pub mod Growth
pub mod Ties
pub mod Grown
-- The rules, one relay or one desk at a time
pub mod Turns
pub mod RelaySteps
pub mod Entering
pub mod Serving
pub mod DeskSteps
pub mod DeskReplies
-- Steps and runs of a world, with the history
pub mod Deeds
pub mod Stepping
pub mod Dates
pub mod Book
pub mod Running
-- The order, over the history
pub mod Unfinished
pub mod Carried
pub mod Safety
pub mod Corollaries
pub mod Overlap

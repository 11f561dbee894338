-- What an inspector asks of every public function ("What is certified", document 01), and what demand 2 rules out. Demand 3 is in the crate `safety`.

-- "Two results that satisfy one promise are proved equal"
pub mod Determined
-- what a type derives, in words
pub mod Derived
-- what a parameter of a type can be
pub mod Typed
pub mod ImageTyped
-- wrong programs that the promises rule out
pub mod Differ
pub mod RuledOut
pub mod RuledOutParts
pub mod RuledOutImage
pub mod RuledOutSheets
pub mod Worlds
pub mod RuledOutWorld
-- refusing everything, one constant reply, no work at all, show after the first step; invented totals
pub mod EndLine
pub mod Demand2
pub mod Demands
pub mod Definitional

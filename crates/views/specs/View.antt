-- "A view is a set of updates: bit s says relay s joined, bit 8+s says relay s left (s = 0 to 7), so a number 0 to 65,535."
-- A set of relays is a number too: bit s says that relay s is in it. Assumes nothing.
use Rattle.std.specs.Prelude.{Bool, not, ◌&&◌, ℕ, ◌+◌, ◌-◌, ◌/◌, ◌%◌, ◌^◌, eqb, leb}
use Rattle.std.specs.Int.Bits.{bit_and}
use Rattle.std.specs.Int.Count.{ones}

-- number s is in the set m
abbrev pub bit_of : ℕ → ℕ → Bool
bit_of m s = eqb (m / 2 ^ s % 2) 1

-- "Its members joined and have not left." The low eight bits say who joined, the high eight who left; 255 - x has the eight bits that x lacks.
abbrev pub members_of : ℕ → ℕ
members_of v = bit_and (v % 256) (255 - v / 256)

-- relay s is a member of v
unfoldable pub member_of : ℕ → ℕ → Bool
member_of v s = bit_of (members_of v) s

-- "Its quorum is half its member count, rounded down, plus 1"
abbrev pub quorum_of : ℕ → ℕ
quorum_of v = ones (members_of v) / 2 + 1

-- "Only members count towards it; without members it is 1 and never reached."
unfoldable pub reaches_of : ℕ → ℕ → Bool
reaches_of v who = leb (quorum_of v) (ones (bit_and who (members_of v)))

-- every update of a is in b
abbrev pub within_of : ℕ → ℕ → Bool
within_of a b = eqb (bit_and a b) a

-- "Inside" means every update of one is in the other and they differ.
unfoldable pub inside_of : ℕ → ℕ → Bool
inside_of a b = within_of a b && not (eqb a b)

-- they differ, and neither includes the other
unfoldable pub clash_of : ℕ → ℕ → Bool
clash_of a b = not (eqb a b) && (not (inside_of a b) && not (inside_of b a))

-- "Sets and sequences". A view is a number 0 to 65,535: bit s says relay s joined, bit 8 + s says relay s left. A set of relays or desks is a number too.
-- The definitions are those of the crate `views`; here they get document 01's words. Assumes nothing.
use Rattle.std.specs.Prelude.{List, [], ◌∷◌, ℕ, ◌+◌, ◌-◌, ◌^◌, Bool, true, false, ◌&&◌}
use Rattle.std.specs.Int.Bits.{bit_and, bit_or}
unfoldable pub use Rattle.views.specs.Choice.{those}
pub use Rattle.views.specs.View.{bit_of as bit, members_of as members, quorum_of as quorum, within_of as within}
unfoldable pub use Rattle.views.specs.View.{member_of as member, reaches_of as reaches, inside_of as inside, clash_of as clash}
pub use Rattle.views.specs.Chain.{has_of as has, lacks_of as lacks, conflict_of as conflict, least_of as least, most_of as most, beyond_of as beyond}
unfoldable pub use Rattle.views.specs.Chain.{some, same_of as same, plus_of as plus, union_of as unite, heard_of as heard, above_of as above}

-- how many there are: relays and desks, both together, message places, a relay's generators or transfers, views in a sequence
abbrev pub relay_count : ℕ
relay_count = 8

abbrev pub desk_count : ℕ
desk_count = 4

abbrev pub everyone : ℕ
everyone = relay_count + desk_count

abbrev pub place_count : ℕ
place_count = 256

abbrev pub seat_count : ℕ
seat_count = 8

abbrev pub view_count : ℕ
view_count = 15

-- the updates "relay s joined" and "relay s left", +s and -s
abbrev pub joins : ℕ → ℕ
joins s = 2 ^ s

abbrev pub leaves : ℕ → ℕ
leaves s = 2 ^ (8 + s)

-- the set of s alone
abbrev pub only : ℕ → ℕ
only s = 2 ^ s

-- all of both; those of a that are not in b
abbrev pub joined : ℕ → ℕ → ℕ
joined a b = bit_or a b

abbrev pub less : ℕ → ℕ → ℕ
less a b = a - bit_and a b

-- the list has nothing
abbrev pub none : {A : Type 0} → List A → Bool
none [] = true
none (x ∷ xs) = false

-- each passes the test
unfoldable pub all : {A : Type 0} → (A → Bool) → List A → Bool
all f [] = true
all f (x ∷ xs) = f x && all f xs

-- each of these conditions holds
unfoldable pub all_hold : List Bool → Bool
all_hold [] = true
all_hold (b ∷ bs) = b && all_hold bs

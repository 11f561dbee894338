-- "Classroom examples", those marked for proof: one table, and one theorem about the definitions. Assumes nothing.
use Rattle.std.specs.Prelude.{Bool, List, [], ◌∷◌, ℕ, T, eqb, ◌&&◌}
use Rattle.std.specs.Int.Count.{ones, ones_in}
use Rattle.rules.specs.Sets.{members, quorum, inside, clash, some, same, plus, unite, heard, above, all}
use Rattle.rules.specs.Stamps.{sign, compared, greater}

pub data Example : Type 0 where
  -- view v has that many members, and its quorum is n
  quorum_is : (v count n : ℕ) → Example
  -- the members of view v are the relays of the set m
  members_are : (v m : ℕ) → Example
  -- kept for view v: own / converged / heard gives own
  gives : (v : ℕ) (own converged heard new : List ℕ) → Example
  -- the first stamp (count, desk) is above the second
  is_above : (count desk count' desk' : ℕ) → Example

abbrev pub holds : Example → Bool
holds (quorum_is v count n) = eqb (ones (members v)) count && eqb (quorum v) n
holds (members_are v m) = eqb (members v) m
holds (gives v own converged q new) = all (above v) (own ∷ converged ∷ q ∷ new ∷ []) && same (heard own converged q) new
holds (is_above c d c' d') = greater (record { count = c; desk = d }) (record { count = c'; desk = d' })

-- "quorums of 1, 2, 3, 4, 8 members are 1, 2, 2, 3, 5. View 1031 has members 0 and 1. For v = 1 (own / converged / heard gives own):
-- {3}/none/{5} gives {7}; {3}/{3}/{5} gives {3,7}; {7}/none/{3} gives {3,7}; {3}/none/{3,7} gives {3,7}; {3,11}/{3}/{5} gives {3,15};
-- {3,7}/none/{7} stays. Stamp (2,1) is above (2,0); (3,0) above (2,3)."
pub examples : List Example
examples =
    quorum_is 1 1 1 ∷ quorum_is 3 2 2 ∷ quorum_is 7 3 2 ∷ quorum_is 15 4 3 ∷ quorum_is 255 8 5
    ∷ members_are 1031 3
    ∷ gives 1 (3 ∷ []) [] (5 ∷ []) (7 ∷ [])
    ∷ gives 1 (3 ∷ []) (3 ∷ []) (5 ∷ []) (3 ∷ 7 ∷ [])
    ∷ gives 1 (7 ∷ []) [] (3 ∷ []) (3 ∷ 7 ∷ [])
    ∷ gives 1 (3 ∷ []) [] (3 ∷ 7 ∷ []) (3 ∷ 7 ∷ [])
    ∷ gives 1 (3 ∷ 11 ∷ []) (3 ∷ []) (5 ∷ []) (3 ∷ 15 ∷ [])
    ∷ gives 1 (3 ∷ 7 ∷ []) [] (7 ∷ []) (3 ∷ 7 ∷ [])
    ∷ is_above 2 1 2 0 ∷ is_above 3 0 2 3
    ∷ []

pub examples_hold : T (all holds examples)
unfolding examples all inside clash some same plus unite heard above ones ones_in sign compared greater
examples_hold = tt

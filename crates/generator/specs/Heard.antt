-- "Proposal(v, q)" as a row holds it: of the new own sequence the first fifteen views. A good generator's has no more (proofs/Whole): there it is
-- the rule itself. Assumes nothing.
use Rattle.std.specs.Prelude.{List, [], ◌∷◌, ◌++◌, ℕ, take, if◌then◌else◌}
use Rattle.rules.specs.Sets.{lacks}
use Rattle.rules.specs.Messages.{Sending, proposal, to_members}
use Rattle.rules.specs.State.{Generator}
use Rattle.rules.specs.Generators.{Turn, with_own, hears, settles}

-- a generator that sends these
abbrev pub turn : Generator → List Sending → Turn
turn g ss = record { next = g; sendings = ss }

-- the generator after the note and the merge
unfoldable pub merged_in_row : Generator → ℕ → List ℕ → Generator
merged_in_row g from q = let h = (hears g from q).next in with_own h (take 15 h.own)

unfoldable pub hears_in_row : Generator → ℕ → List ℕ → Turn
hears_in_row g from q =
    let h = merged_in_row g from q in
    turn h (if lacks q g.own then to_members g.view (proposal g.view h.own) ∷ [] else [])

unfoldable pub heard_in_row : Generator → ℕ → List ℕ → Turn
heard_in_row g from q =
    let one = hears_in_row g from q in
    let two = settles one.next in
    turn two.next (one.sendings ++ two.sendings)

-- The message places. Assumes nothing.
use Rattle.std.specs.Prelude.{List, [], ◌∷◌, ℕ, suc}
use Rattle.rules.specs.Messages.{Message}
use Rattle.rules.specs.State.{Place, free, waiting}

-- "A new message takes the lowest free place"
unfoldable pub place : Message → List Place → List Place
place m [] = []
place m (free ∷ ps) = waiting m ∷ ps
place m (waiting x ∷ ps) = waiting x ∷ place m ps

unfoldable pub place_all : List Message → List Place → List Place
place_all [] ps = ps
place_all (m ∷ ms) ps = place_all ms (place m ps)

-- how many are free, and how many hold a message
unfoldable pub free_in : List Place → ℕ
free_in [] = 0
free_in (free ∷ ps) = suc (free_in ps)
free_in (waiting m ∷ ps) = free_in ps

unfoldable pub waiting_in : List Place → ℕ
waiting_in [] = 0
waiting_in (free ∷ ps) = waiting_in ps
waiting_in (waiting m ∷ ps) = suc (waiting_in ps)

-- What is written of a record into a lent buffer: all that fits, and the position past the whole. Assumes nothing.
use Rattle.std.specs.Prelude.{List, [], ◌∷◌, ℕ, suc, ◌+◌, min, length, set}
use Rattle.rules.specs.Runs.{line}

-- out with the bytes of b written over it from `at` on; those past its end are dropped
unfoldable pub laid : List ℕ → ℕ → List ℕ → List ℕ
laid out at [] = out
laid out at (x ∷ b) = laid (set out at x) (suc at) b

-- the largest position that the code can count to; no buffer reaches that far
abbrev pub far : ℕ
far = 18446744073709551615

-- the position past b, whether or not b fits; the largest stays
abbrev pub past : ℕ → List ℕ → ℕ
past at b = min (at + length b) far

-- "number from 1, answer, event, who, stamp count, stamp desk [..], and value (events 2, 3) or view (event 1)"
abbrev pub step_of : ℕ → ℕ → ℕ → ℕ → ℕ → ℕ → ℕ → List ℕ
step_of number answer event who count desk last = line (number ∷ answer ∷ event ∷ who ∷ count ∷ desk ∷ last ∷ [])

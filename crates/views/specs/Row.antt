-- A sequence as the code holds it: a row of fifteen view numbers with a length. ("it has at most 15")
-- Assumes nothing.
use Rattle.std.specs.Prelude.{List, ◌++◌, ℕ, ◌-◌, length, take, replicate}
use Rattle.views.specs.declared.Sequence.{Sequence}

-- the views that a row holds: of a length above 15, all fifteen count
unfoldable pub views_of : Sequence → List ℕ
views_of q = take q.len q.views

-- the row that holds these views, at most the first 15, its unused entries zero
unfoldable pub row_of : List ℕ → Sequence
row_of l = record { views = take 15 l ++ replicate (15 - length l) 0; len = length (take 15 l) }

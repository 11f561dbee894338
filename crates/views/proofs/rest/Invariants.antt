-- `views::rest` meets its contract. The invariant: the row holds the views of r and those read so far. Assumes nothing.
use Rattle.std.proofs.Common.{◌≡◌, ◌++◌, take}
use Rattle.views.specs.Row.{views_of, row_of}
use Rattle.views.proofs.rest.Given as goal

abbrev pub invariant-loop-v : goal.invariant-loop-v
invariant-loop-v l = l.a ≡ row_of (views_of l.initial.a ++ take l.v-index l.views)

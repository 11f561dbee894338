-- `views::beyond` meets its contract. The invariant: the row holds those that pass of the views read so far. Assumes nothing.
use Rattle.std.proofs.Common.{◌≡◌, take}
use Rattle.views.specs.Choice.{those}
use Rattle.views.specs.View.{inside_of}
use Rattle.views.specs.Row.{row_of}
use Rattle.views.proofs.beyond.Given as goal

abbrev pub invariant-loop-x : goal.invariant-loop-x
invariant-loop-x l = l.a ≡ row_of (those (inside_of l.w) (take l.x-index l.x-items))

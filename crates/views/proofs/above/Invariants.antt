-- `views::above` meets its contract. The invariant: the views not yet read answer for the whole. Assumes nothing.
use Rattle.std.proofs.Common.{◌≡◌, drop}
use Rattle.views.specs.Chain.{above_of}
use Rattle.views.specs.Row.{views_of}
use Rattle.views.proofs.above.Given as goal

abbrev pub invariant-loop-w : goal.invariant-loop-w
invariant-loop-w l = above_of l.last (drop l.w-index l.w-items) ≡ above_of l.v (views_of l.fn.q)

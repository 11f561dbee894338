-- `world::begin::put_desks` meets its contract: the desks before n are there. Assumes nothing.
use mathlib.Core.Path.{◌≡◌}
use Rattle.layout.specs.Image.{image}
use Rattle.world.specs.Commits.{begun}
use Rattle.world.proofs.begin.put_desks.Given as goal

abbrev pub invariant-loop-n : goal.invariant-loop-n
invariant-loop-n l = l.initial.w ≡ image (begun l.mask 8 0) → l.w ≡ image (begun l.mask 8 l.n)

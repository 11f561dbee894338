-- `world::begin::put_relays` meets its contract: the relays before that number are there. Assumes nothing.
use mathlib.Core.Path.{◌≡◌}
use Rattle.layout.specs.Image.{image}
use Rattle.world.specs.Commits.{begun}
use Rattle.world.proofs.begin.put_relays.Given as goal

abbrev pub invariant-loop-number : goal.invariant-loop-number
invariant-loop-number l = l.initial.w ≡ image (begun l.mask 0 0) → l.w ≡ image (begun l.mask l.number 0)

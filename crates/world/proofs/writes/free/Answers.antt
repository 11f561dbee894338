-- `world::writes::free` meets its contract. Assumes nothing.
use Prim.Native.Nat.{◌<◌}
use mathlib.Core.Path.{◌∙◌}
use native.Mathlib.Omega.{arith}
use borrow.Author.Tests.{lt-ltb}
use Rattle.world.specs.Commits.{freed_at}
use Rattle.world.proofs.Places.{put-free}
use Rattle.world.proofs.writes.free.Goals as goal

pub returns-in_default : goal.returns-in_default
unfolding freed_at
returns-in_default c W long e = e ∙ rw c.in_default.is

pub returns-in-Some : goal.returns-in-Some
unfolding freed_at
returns-in-Some c W long e =
    let small : c.in-Some.p < 256 = omega arith in
    c.clear.ensures ∙ rw (c.in-Some.is, e, lt-ltb c.in-Some.p 256 small) (put-free W long c.in-Some.p small)

-- `world::begin::put_desks` meets its contract: the desks before n are there. Assumes nothing.
use mathlib.Core.Path.{◌≡◌, ◌∙◌}
use native.Mathlib.Omega.{arith}
use Rattle.world.proofs.Begun.{desk-written}
use Rattle.world.proofs.begin.put_desks.Goals as goal

pub loop-n-preserved : goal.loop-n-preserved
loop-n-preserved c e = c.put_desk.ensures ∙ rw (c.start_desk-desk.ensures, c.loop-n.invariant e) (desk-written c.args.mask 8 c.loop-n.n c.loop-n-test.true)

pub returns : goal.returns
returns c = let all : c.loop-n.n ≡ 4 = omega arith in rw all at c.loop-n.invariant

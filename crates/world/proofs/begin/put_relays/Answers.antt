-- `world::begin::put_relays` meets its contract: the relays before that number are there. Assumes nothing.
use mathlib.Core.Path.{◌≡◌, ◌∙◌}
use native.Mathlib.Omega.{arith}
use Rattle.world.proofs.Begun.{relay_written}
use Rattle.world.proofs.begin.put_relays.Goals as goal

pub loop-number-preserved : goal.loop-number-preserved
loop-number-preserved c e =
    c.put_head.ensures ∙ rw (c.row.ensures, c.start_head.ensures, c.loop-number.invariant e)
    (relay_written c.args.mask c.loop-number.number 0 c.loop-number-test.true)

pub returns : goal.returns
returns c = let all : c.loop-number.number ≡ 8 = omega arith in rw all at c.loop-number.invariant

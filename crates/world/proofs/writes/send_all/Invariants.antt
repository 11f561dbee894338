-- `world::writes::send_all` meets its contract: the sendings before s are sent. Assumes nothing.
use Rattle.world.proofs.Places.{out_to, Placed}
use Rattle.world.proofs.writes.send_all.Given as goal

abbrev pub invariant-loop-s : goal.invariant-loop-s
invariant-loop-s l = Placed l.initial.w (out_to l.from l.s-items l.s-index) l.w

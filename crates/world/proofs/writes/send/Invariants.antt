-- `world::writes::send` meets its contract: the copies so far are sent. Assumes nothing.
use mathlib.Core.List.{map}
use Rattle.state.specs.Meaning.{body_of}
use Rattle.world.specs.Commits.{TakenTo, message}
use Rattle.world.proofs.Places.{Placed}
use Rattle.world.proofs.writes.send.Given as goal

abbrev pub invariant-loop-to : goal.invariant-loop-to
invariant-loop-to l = Placed l.initial.w (map (message l.from (body_of l.fn.x.body)) l.yielded) l.w × TakenTo l.w l.low

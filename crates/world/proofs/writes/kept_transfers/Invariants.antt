-- `world::writes::kept_transfers` meets its contract: those so far stand first. Assumes nothing.
use Rattle.std.proofs.lemmas.Iterator.{YieldsList}
use Rattle.std.specs.List.{enumerate_from}
use Rattle.world.proofs.Kept.{found, meant, Filled}
use Rattle.world.proofs.writes.kept_transfers.Given as goal

abbrev pub invariant-loop-n : goal.invariant-loop-n
invariant-loop-n l =
    Filled l.kept l.yielded × YieldsList (goal.iterator-loop-n).next_gives meant l.initial.n-iterator (enumerate_from 0 (found l.w l.fn.at l.fn.v))

-- `world::reads::receivers` meets its contract. Assumes nothing.
use Rattle.world.proofs.Places.{receivers_counted}
use Rattle.world.proofs.reads.receivers.Goals as goal

pub returns : goal.returns
returns c = receivers_counted c.args.m 12

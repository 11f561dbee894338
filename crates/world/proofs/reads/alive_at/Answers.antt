-- `world::reads::alive_at` meets its contract. Assumes nothing.
use Rattle.world.proofs.Good.{alive-row}
use Rattle.world.proofs.reads.alive_at.Goals as goal

pub returns : goal.returns
returns c = rw (c.byte_at.ensures, c.row_of.ensures) (alive-row c.args.w.now c.args.who c.requires)

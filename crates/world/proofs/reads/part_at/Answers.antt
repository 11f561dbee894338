-- `world::reads::part_at` meets its contract. Assumes nothing.
use Rattle.state.specs.Meaning.{part_of}
use Rattle.locality.specs.Narrow.{move}
use Rattle.world.proofs.Good.{part_is}
use Rattle.world.proofs.reads.part_at.Goals as goal

pub returns : goal.returns
unfolding part_of
returns c =
    let m = move c.args.o c.args.n in
    part_is c.args.w.now c.requires c.args.s.number c.args.s.is_relay c.args.v m _ _ _ (rw c.row-at.ensures at c.head_at.ensures)
    (c.generator_in.ensures m) (c.transfer_in.ensures c.args.v)

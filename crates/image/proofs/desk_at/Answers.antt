-- `image::desk_at` meets its contract. Assumes nothing.
use Rattle.layout.specs.Image.{desk_at}
use Rattle.image.proofs.Ends.{alike_end, desk_alike}
use Rattle.image.proofs.desk_at.Goals as goal

pub returns : goal.returns
unfolding desk_at
returns c =
    rw (
      c.byte_at-alive.ensures,
      c.phase_of-phase.ensures,
      c.byte_at.ensures,
      c.read_u16-view.ensures,
      c.read_u16-tries.ensures,
      c.pair_at-holds.ensures,
      c.byte_at-replied.ensures,
      c.pair_at-best.ensures,
      c.byte_at-agreed.ensures,
    ) (desk_alike (alike_end c.args.s.now c.args.at _ c.min-a.ensures))

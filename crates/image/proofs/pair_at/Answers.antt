-- `image::pair_at` meets its contract. Assumes nothing.
use Rattle.layout.specs.Image.{pair_at}
use Rattle.image.proofs.Ends.{alike_end, pair_alike}
use Rattle.image.proofs.pair_at.Goals as goal

pub returns : goal.returns
unfolding pair_at
returns c =
    rw (
      c.read_u16-count.ensures,
      c.byte_at-desk.ensures,
      c.read_u32-value.ensures,
    ) (pair_alike (alike_end c.args.s.now c.args.at _ c.min-a.ensures))

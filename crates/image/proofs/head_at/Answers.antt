-- `image::head_at` meets its contract. Assumes nothing.
use Rattle.image.specs.Parts.{head_at}
use Rattle.image.proofs.Ends.{alike_end, head_alike}
use Rattle.image.proofs.head_at.Goals as goal

pub returns : goal.returns
unfolding head_at
returns c =
    rw (
      c.byte_at-alive.ensures,
      c.byte_at-entered.ensures,
      c.byte_at-active.ensures,
      c.read_u16-view.ensures,
      c.read_u16-known.ensures,
      c.read_u16-pending.ensures,
      c.pair_at-holds.ensures,
    ) (head_alike (alike_end c.args.s.now c.args.at _ c.min-a.ensures))

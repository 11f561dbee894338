-- `image::message_at` meets its contract. Assumes nothing.
use Rattle.image.specs.Parts.{message_row_at}
use Rattle.image.proofs.Ends.{alike_end, message_alike}
use Rattle.image.proofs.message_at.Goals as goal

pub returns : goal.returns
unfolding message_row_at
returns c =
    rw (
      c.byte_at-kind.ensures,
      c.byte_at-from.ensures,
      c.byte_at-to.ensures,
      c.read_u16-first.ensures,
      c.read_u16-second.ensures,
      c.read_u16-tries.ensures,
      c.sequence_at-sequence.ensures,
      c.pair_at-pair.ensures,
      c.read_u16-updates.ensures,
    ) (message_alike (alike_end c.args.s.now c.args.at _ c.min-a.ensures))

-- `image::transfer_at` meets its contract. Assumes nothing.
use Rattle.image.specs.Parts.{transfer_row_at}
use Rattle.image.proofs.Ends.{alike_end, transfer_alike}
use Rattle.image.proofs.transfer_at.Goals as goal

pub returns : goal.returns
unfolding transfer_row_at
returns c =
    rw (
      c.read_u16-old.ensures,
      c.read_u16-new.ensures,
      c.sequence_at-sequence.ensures,
      c.byte_at-senders.ensures,
      c.pair_at-best.ensures,
      c.read_u16-gathered.ensures,
    ) (transfer_alike (alike_end c.args.s.now c.args.at _ c.min-a.ensures))

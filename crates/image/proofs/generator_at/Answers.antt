-- `image::generator_at` meets its contract. Assumes nothing.
use Rattle.image.specs.Parts.{generator_row_at}
use Rattle.image.proofs.Ends.{alike_end, generator_alike}
use Rattle.image.proofs.generator_at.Goals as goal

pub returns : goal.returns
unfolding generator_row_at
returns c =
    rw (
      c.read_u16-view.ensures,
      c.sequence_at-own.ensures,
      c.sequence_at-converged.ensures,
      c.sequence_at-raised.ensures,
      c.notes_at-proposals.ensures,
      c.notes_at-convergences.ensures,
    ) (generator_alike (alike_end c.args.s.now c.args.at _ c.min-a.ensures))

-- `image::put_notes` meets its contract: the sequences before i are written. Assumes nothing.
use mathlib.Core.List.{[], map}
use lib.ListN.{get_or}
use Rattle.rows.proofs.Laws.{Wrote}
use Rattle.views.specs.Row.{views_of}
use Rattle.rules.specs.Sets.{relay_count}
use Rattle.layout.specs.Layout.{sequence_width}
use Rattle.layout.specs.Image.{sequence_bytes}
use Rattle.image.proofs.put_notes.Given as goal

abbrev pub invariant-loop-i : goal.invariant-loop-i
invariant-loop-i l = Wrote sequence_width relay_count (λ k. sequence_bytes (get_or (map views_of l.q-items) k [])) l.initial.s l.at l.i l.s

-- `image::notes_at` meets its contract: the sequences before i are read. Assumes nothing.
use mathlib.Core.List.{[]}
use Prim.Native.Nat.{◌+◌, ◌*◌}
use Rattle.rows.proofs.Laws.{Filled}
use Rattle.views.specs.Row.{row_of}
use Rattle.layout.specs.Layout.{sequence_width}
use Rattle.image.specs.Parts.{sequence_row_at}
use Rattle.image.proofs.notes_at.Given as goal

abbrev pub invariant-loop-i : goal.invariant-loop-i
invariant-loop-i l = Filled 8 (row_of []) (λ k. sequence_row_at l.s (l.a + k * sequence_width)) l.i l.q-items

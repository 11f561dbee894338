-- `image::sequence_at` meets its contract: the views before i are read, and those from the length on are zero. Assumes nothing.
use lib.ListN.{length}
use Prim.Native.Nat.{◌+◌, ◌*◌}
use Rattle.rows.specs.Bytes.{u16_at}
use Rattle.rows.proofs.Laws.{Filled}
use Rattle.image.proofs.sequence_at.Given as goal

abbrev pub invariant-loop-i : goal.invariant-loop-i
invariant-loop-i l = Filled (length l.initial.view-items) 0 (λ k. u16_at l.s (l.a + 2 * k)) l.i l.view-items

-- `image::put_sequence` meets its contract: the views before i are written. Assumes nothing.
use Prim.Native.Nat.{◌-◌}
use lib.ListN.{get_or}
use Rattle.rows.specs.Bytes.{be16}
use Rattle.rows.proofs.Laws.{Wrote}
use Rattle.views.specs.Row.{views_of}
use Rattle.image.proofs.put_sequence.Given as goal

abbrev pub invariant-loop-i : goal.invariant-loop-i
invariant-loop-i l = Wrote 2 15 (λ k. be16 (get_or (views_of l.q) k 0)) l.initial.s l.at l.i l.s

abbrev pub decreases-loop-i : goal.decreases-loop-i
decreases-loop-i l = 15 - l.i

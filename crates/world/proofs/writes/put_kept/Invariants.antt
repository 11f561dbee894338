-- `world::writes::put_kept` meets its contract: the transfers before i are written. Assumes nothing.
use mathlib.Core.List.{map}
use lib.ListN.{get_or}
use Rattle.rows.proofs.Laws.{Wrote}
use Rattle.rules.specs.Relays.{fresh_transfer}
use Rattle.layout.specs.Layout.{transfer_width}
use Rattle.layout.specs.Image.{transfer_bytes}
use Rattle.state.specs.Meaning.{transfer_of}
use Rattle.world.proofs.writes.put_kept.Given as goal

abbrev pub invariant-loop-i : goal.invariant-loop-i
invariant-loop-i l = Wrote transfer_width 8 (λ k. transfer_bytes (get_or (map transfer_of l.kept) k (fresh_transfer 0 0))) l.initial.w l.at l.i l.w

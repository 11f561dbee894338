-- `world::writes::put_kept` meets its contract: the transfers before i are written. Assumes nothing.
use native.Mathlib.Omega.{arith}
use Rattle.rows.proofs.Laws.{wrote_none, wrote_more, wrote-all}
use Rattle.layout.proofs.Widths.{length_transfer}
use Rattle.world.proofs.Kept.{kept_at}
use Rattle.world.proofs.writes.put_kept.Goals as goal

pub loop-i-init : goal.loop-i-init
loop-i-init c = wrote_none

pub loop-i-preserved : goal.loop-i-preserved
loop-i-preserved c =
    wrote_more (λ k. length_transfer _) c.requires _ _ c.loop-i.invariant c.loop-i-test.true (omega arith)
    (rw (kept_at _ c.loop-i.i) at c.put_transfer.ensures)

pub returns : goal.returns
returns c = wrote-all (λ k. length_transfer _) c.requires c.loop-i.invariant c.loop-i-test.false

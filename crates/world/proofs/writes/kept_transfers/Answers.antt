-- `world::writes::kept_transfers` meets its contract: those so far stand first. Assumes nothing.
use Prim.Native.Nat.{ℕ, ◌+◌, ◌*◌, ◌<◌}
use mathlib.Core.Path.{◌≡◌}
use native.Mathlib.Omega.{arith}
use lib.ListN.{length}
use borrow.Author.Rules.{rules}
use borrow.Author.Tests.{tests}
use Rattle.std.proofs.lemmas.Iterator.{YieldsList-from_range, YieldsList-from_map_by}
use Rattle.std.proofs.lemmas.Iterator.Consumers.{YieldsList-at, YieldsList-from_filter, YieldsList-from_enumerate, YieldsList-turn, YieldsList-end}
use Rattle.rules.specs.Sets.{inside}
use Rattle.rules.specs.State.{Transfer}
use Rattle.layout.specs.Layout.{transfer_width}
use Rattle.layout.specs.Image.{transfer_at}
use Rattle.state.specs.Meaning.{transfer_of}
use Rattle.image.proofs.Meaning.{transfer_read}
use Rattle.world.proofs.Kept.{numbered, filled_none, filled_more, filled_all}
use Rattle.world.proofs.writes.kept_transfers.Goals as goal

pub loop-n-init : goal.loop-n-init
unfolding transfer_of
loop-n-init c = (
  filled_none c.blank-kept.result c.blank-kept.ensures,
  YieldsList-at c.into_iter-n-iterator.ensures.into_iter_gives
      (YieldsList-from_enumerate
      (YieldsList-at c.enumerate-n-items.ensures.source
      (YieldsList-from_filter _ (λ (t : Transfer). inside c.args.v t.new)
      (YieldsList-at c.filter.ensures.source
      (YieldsList-from_map_by _ transfer_of (λ (k : ℕ). transfer_at c.args.w.now (c.args.at + k * transfer_width))
      (YieldsList-from_range 0 8 8 (cc) (omega arith))
      c.map-rows.ensures.closure (λ x r q k. (search rules, transfer_read _ _ (search rules)))))
      c.filter.ensures.closure (λ x r q k. search (rules, tests))))
      c.enumerate-n-items.ensures.count),
)

turn : (c : goal.After-t-1) → (c.in-Some.n ≡ length c.loop-n.yielded) × (c.in-Some.n < 8)
turn c =
    let h = numbered c.args.w.now c.args.at c.args.v (length c.loop-n.yielded) c.in-Some.n (transfer_of c.in-Some.t)
    (YieldsList-turn c.loop-n.invariant.1 c.loop-n.yielded _ c.loop-n.yielded_by _ _ (c.in-Some.n, c.in-Some.t) c.in-Some.is c.next.ensures.steps) in
    (h.0, omega arith)

pub offset_bounds-kept-n : goal.offset_bounds-kept-n
offset_bounds-kept-n c = let h = turn c in record { fits = omega arith }

pub bounds-kept-n : goal.bounds-kept-n
bounds-kept-n c = (turn c).1

pub loop-n-preserved : goal.loop-n-preserved
loop-n-preserved c =
    let h = turn c in
    (filled_more c.loop-n.invariant.0 c.in-Some.n c.in-Some.t h.0 h.1, c.loop-n.invariant.1)

pub returns : goal.returns
returns c =
    let seen = YieldsList-end c.loop-n.invariant.1 c.loop-n.yielded _ c.loop-n.yielded_by _ _ c.in-None.is c.next.ensures.steps in
    filled_all c.args.w.now c.args.at c.args.v c.loop-n.invariant.0 seen.0

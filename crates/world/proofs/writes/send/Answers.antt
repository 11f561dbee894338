-- `world::writes::send` meets its contract: the copies so far are sent. Assumes nothing.
use mathlib.Core.Path.{refl, ◌∙◌}
use mathlib.Core.List.{map-id}
use native.Mathlib.Omega.{arith}
use borrow.Author.Rules.{rules}
use borrow.Author.Tests.{tests}
use Rattle.std.proofs.lemmas.Iterator.{YieldsList-from_range}
use Rattle.std.proofs.lemmas.Iterator.Consumers.{YieldsList-at, YieldsList-from_filter, YieldsList-end}
use Rattle.rules.specs.Sets.{bit}
use Rattle.rules.specs.Sending.{place_all}
use Rattle.state.specs.Meaning.{body_of, sending_of}
use Rattle.world.proofs.Places.{taken_none, placed-none, placed_one, no_copies, all_copies, receivers_found}
use Rattle.world.proofs.writes.send.Goals as goal

pub returns-then-x-eq0 : goal.returns-then-x-eq0
unfolding sending_of place_all
returns-then-x-eq0 c W long e = e ∙ rw (no_copies c.args.from (sending_of c.args.x) c.if-x-eq0.true)

pub loop-to-init : goal.loop-to-init
loop-to-init c = (placed-none refl, taken_none)

pub loop-to-preserved : goal.loop-to-preserved
loop-to-preserved c = (
  placed_one c.args.from (body_of c.args.x.body) c.loop-to.yielded c.loop-to.invariant.0 c.in-Some.to c.place-low.new.w c.place-low.ensures.bytes,
  c.place-low.ensures.next,
)

pub returns : goal.returns
unfolding sending_of
returns c W long e =
    let seen = YieldsList-end
    (YieldsList-at c.into_iter-to-iterator.ensures.into_iter_gives
    (YieldsList-from_filter _ (bit c.args.x.receivers) (YieldsList-from_range 0 12 12 (cc) (omega arith)) c.filter-to-items.ensures.closure
    (λ x r q k. search (rules, tests)))) c.loop-to.yielded _ c.loop-to.yielded_by _ _ c.in-None.is c.next.ensures.steps in
    rw (all_copies c.args.from (sending_of c.args.x), ← receivers_found c.args.x.receivers 12, ← seen.0, map-id c.loop-to.yielded)
    (c.loop-to.invariant.0.is W long e)

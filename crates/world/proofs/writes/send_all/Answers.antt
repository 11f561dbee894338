-- `world::writes::send_all` meets its contract: the sendings before s are sent. Assumes nothing.
use mathlib.Core.Path.{◌≡◌}
use native.Mathlib.Omega.{arith}
use lib.ListN.{length}
use borrow.Author.Rules.{rules}
use Rattle.state.specs.Meaning.{sendings_of}
use Rattle.state.specs.Plans.{most}
use Rattle.world.proofs.Places.{out_none, out_more, out_all, placed-none, placed_more}
use Rattle.world.proofs.writes.send_all.Goals as goal

pub loop-s-init : goal.loop-s-init
loop-s-init c = placed-none (out_none _ _)

pub loop-s-preserved : goal.loop-s-preserved
loop-s-preserved c =
    let full : length c.args.x.of ≡ most = search rules in
    placed_more c.loop-s.invariant _ (out_more c.args.from c.args.x.of c.loop-s.s-index _ (omega (arith, full))) _ c.send.ensures

pub returns : goal.returns
unfolding sendings_of
returns c W long e =
    let full : length c.args.x.of ≡ most = search rules in
    rw (← out_all c.args.from c.args.x.of c.loop-s.s-index (omega (arith, full))) (c.loop-s.invariant.is W long e)

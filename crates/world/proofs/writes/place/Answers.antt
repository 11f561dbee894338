-- `world::writes::place` meets its contract. Assumes nothing.
use mathlib.Core.Path.{◌∙◌}
use native.Mathlib.Omega.{arith}
use Rattle.state.specs.Meaning.{body_of}
use Rattle.good.proofs.Messages.{plain_place}
use Rattle.world.specs.Commits.{message}
use Rattle.world.proofs.Places.{put_lowest, put_nowhere, taken_put}
use Rattle.world.proofs.writes.place.Goals as goal

pub returns-in_default-clause-bytes : goal.returns-in_default-clause-bytes
returns-in_default-clause-bytes c W long e =
    e ∙ rw (put_nowhere W long (message c.args.from (body_of c.args.body) c.args.to) 256 (rw e at c.in_default.ensures.0) (omega arith))

pub returns-clause-next : goal.returns-clause-next
returns-clause-next c = taken_put c.args.w.now _ _ _ c.in-Some.ensures.0 c.put_message.ensures

pub returns-clause-bytes : goal.returns-clause-bytes
unfolding message
returns-clause-bytes c W long e =
    c.put_message.ensures
    ∙ rw (plain_place c.args.from c.args.to c.args.body _ c.plain.ensures, e)
    (put_lowest W long (message c.args.from (body_of c.args.body) c.args.to) _ (rw e at c.in-Some.ensures.0) c.in-Some.ensures.1)

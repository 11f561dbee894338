-- `world::reads::generator_seated` meets its contract. Assumes nothing.
use mathlib.Core.Path.{◌∙◌}
use Rattle.world.proofs.Put.{seated_none, seated_found}
use Rattle.world.proofs.reads.generator_seated.Goals as goal

pub returns-in-Some : goal.returns-in-Some
returns-in-Some c =
    let seat = rw c.row-at.ensures at c.generator_seat.ensures in
    c.is_some.ensures
    ∙ seated_found c.args.w.now c.requires c.args.s.number c.args.s.is_relay c.args.part c.in-Some.g c.in-Some.is c.generator_seat.result seat

pub returns-in-None : goal.returns-in-None
returns-in-None c = seated_none c.args.w.now c.requires c.args.s.number c.args.s.is_relay c.args.part c.in-None.is

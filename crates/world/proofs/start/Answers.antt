-- `world::start` meets its contract. Assumes nothing.
use mathlib.Core.Path.{◌∙◌}
use Rattle.world.proofs.Commit.{answered}
use Rattle.world.proofs.start.Goals as goal

pub returns : goal.returns
returns c = answered _ _ _ c.into.ensures ∙ c.start_any.ensures

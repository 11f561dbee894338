-- `world::step` meets its contract. Assumes nothing.
use mathlib.Core.Path.{◌∙◌}
use Rattle.world.proofs.Commit.{answered}
use Rattle.world.proofs.step.Goals as goal

pub returns : goal.returns
returns c = answered _ _ _ c.into.ensures ∙ c.step_any.ensures

-- `world::run::ended` meets its contract. Assumes nothing.
use mathlib.Core.Path.{refl}
use Rattle.world.specs.Tracing.{columns_of}
use Rattle.world.proofs.run.ended.Goals as goal

pub returns : goal.returns
unfolding columns_of
returns c = refl

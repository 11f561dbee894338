-- `engine::world_start` meets its contract. Assumes nothing.
use mathlib.Core.Path.{ap}
use Rattle.layout.specs.Lent.{Lent}
use Rattle.world.specs.Answer.{lent_of}
use Rattle.engine.proofs.world_start.Goals as goal

pub returns : goal.returns
unfolding lent_of
returns c = record { answer = ap (λ (l : Lent). l.answer) c.start.ensures; buffer = ap (λ (l : Lent). l.buffer) c.start.ensures }

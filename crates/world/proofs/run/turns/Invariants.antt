-- `world::run::turns` meets its contract. Assumes nothing.
use Rattle.layout.specs.Image.{world_at}
use Rattle.sheet.specs.Reading.{steps_from, steps_left}
use Rattle.world.proofs.Tracing.{Tracing}
use Rattle.world.proofs.run.turns.Given as goal

abbrev pub invariant-loop-step : goal.invariant-loop-step
invariant-loop-step l = Tracing (world_at l.initial.w) (steps_from l.sheet 6) l.initial.rows l.w l.rows l.at (steps_left l.step-iterator)

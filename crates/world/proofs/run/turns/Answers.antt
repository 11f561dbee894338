-- `world::run::turns` meets its contract. Assumes nothing.
use Rattle.std.proofs.Common.{ap, ◌∙◌}
use Rattle.sheet.specs.Reading.{steps_left}
use Rattle.sheet.proofs.Walk.{all_left}
use Rattle.world.proofs.Tracing.{tracing_none, tracing_more, tracing_all}
use Rattle.world.proofs.run.turns.Goals as goal

pub loop-step-init : goal.loop-step-init
loop-step-init c =
    let e = c.new-step-items.ensures in
    let all = ap steps_left c.into_iter-step-iterator.ensures.into_iter_gives ∙ all_left _ _ e.0 e.1 in
    rw all (tracing_none c.requires.w_value.0 c.requires.trace_row_width_in_bounds)

pub loop-step-preserved : goal.loop-step-preserved
loop-step-preserved c = tracing_more c.loop-step.invariant _ _ _ _ c.in-Some.ensures.steps.2 c.turn.ensures

pub returns : goal.returns
returns c =
    let both = tracing_all c.loop-step.invariant c.in-None.ensures.steps.2.0 in
    record { world = both.0; rows = both.1 }

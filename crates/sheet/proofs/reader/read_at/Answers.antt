-- `sheet::reader::read_at` meets its contract: the step at the position and the position past it are what is taken there. Assumes nothing.
use mathlib.Core.Path.{refl, sym, ◌∙◌}
use Rattle.sheet.proofs.Walk.{taken_by}
use Rattle.sheet.proofs.reader.read_at.Goals as goal

pub returns-in_err-step : goal.returns-in_err-step
returns-in_err-step c =
    c.from_residual.ensures ∙ taken_by c.args.sheet.now c.args.at _ _ (sym c.in_err-step.was ∙ c.step_at.ensures) refl

pub returns : goal.returns
returns c = taken_by c.args.sheet.now c.args.at _ _ (sym c.in_ok-step.was ∙ c.step_at.ensures) c.after.ensures

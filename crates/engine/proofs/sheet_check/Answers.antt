-- `engine::sheet_check` meets its contract. Assumes nothing.
use mathlib.Core.Path.{ap, ◌∙◌}
use Rattle.std.specs.Result.{result_err}
use Rattle.engine.specs.Told.{number_told}
use Rattle.engine.proofs.Telling.{check_number}
use Rattle.engine.proofs.sheet_check.Goals as goal

pub returns : goal.returns
returns c = c.answer_number.ensures ∙ ap number_told (c.err.ensures.value ∙ ap result_err c.check.ensures) ∙ check_number c.args.sheet.now

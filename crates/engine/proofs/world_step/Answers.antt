-- `engine::world_step` meets its contract. Assumes nothing.
use mathlib.Core.Path.{◌∙◌}
use native.Mathlib.Omega.{arith}
use Rattle.engine.proofs.Telling.{short, refused, accepted}
use Rattle.engine.proofs.world_step.Goals as goal

pub returns-then-told-lt-COLUMNS : goal.returns-then-told-lt-COLUMNS
returns-then-told-lt-COLUMNS c =
    let h = short c.args.w.now c.args.kind c.args.id c.args.value c.args.told.now (omega (arith, c.if-told-lt-COLUMNS.true)) in
    record { answer = c.answer_number.ensures ∙ h.0; buffer = h.1.0; columns = h.1.1 }

pub returns-then-answer-eq0 : goal.returns-then-answer-eq0
returns-then-answer-eq0 c =
    let a = c.args in
    let h = accepted a.w.now a.kind a.id a.value a.told.now (omega (arith, c.if-told-lt-COLUMNS.false))
    c.step-answer.result c.step-answer.new.w c.step-answer.ensures c.if-answer-eq0.true _ _ c.columns_of.ensures c.put_columns.ensures in
    record { answer = h.0; buffer = h.1.0; columns = h.1.1 }

pub returns-else-answer-eq0 : goal.returns-else-answer-eq0
returns-else-answer-eq0 c =
    let a = c.args in
    let h = refused a.w.now a.kind a.id a.value a.told.now (omega (arith, c.if-told-lt-COLUMNS.false))
    c.step-answer.result c.step-answer.new.w c.step-answer.ensures c.if-answer-eq0.false in
    record { answer = h.0; buffer = h.1.0; columns = h.1.1 }

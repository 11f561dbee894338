-- `engine::sheet_rehearse` meets its contract. Assumes nothing.
use mathlib.Core.Path.{sym, ap, ◌∙◌}
use native.Mathlib.Omega.{arith}
use Rattle.rehearsal.specs.declared.Rehearsed.{Rehearsed}
use Rattle.rules.proofs.Longest.{longest-is}
use Rattle.rehearsal.proofs.Playing.{answer_long}
use Rattle.engine.proofs.Telling.{short_length, turned_away, rehearsed}
use Rattle.engine.proofs.sheet_rehearse.Goals as goal

pub returns-then-told-lt-LENGTH : goal.returns-then-told-lt-LENGTH
returns-then-told-lt-LENGTH c =
    let h = short_length _ _ _ _ c.if-told-lt-LENGTH.true in
    record { answer = c.answer_number.ensures ∙ h.0; last = h.1.0; printed = h.1.1.0; length = h.1.1.1 }

pub overflow_cast-done : goal.overflow_cast-done
overflow_cast-done c =
    let long = answer_long c.args.sheet.now c.args.world.now c.args.out.now (omega (arith, c.type_inv.sheet 5)) in
    omega (arith, long, longest-is 8000, ap (λ (r : Rehearsed). r.length) c.rehearse-done.ensures.answer)

pub returns-then-number-eq0 : goal.returns-then-number-eq0
returns-then-number-eq0 c =
    let a = c.args in
    let done = c.rehearse-done in
    let n = c.answer_number-number.ensures in
    let h = rehearsed a.sheet.now a.world.now a.out.now a.told.now c.if-told-lt-LENGTH.false done.result done.new.world done.new.out
    done.ensures.answer done.ensures.last done.ensures.printed (sym n ∙ c.if-number-eq0.true) _ c.put_length.ensures in
    record { answer = n ∙ h.0; last = h.1.0; printed = h.1.1.0; length = h.1.1.1 }

pub returns-else-number-eq0 : goal.returns-else-number-eq0
returns-else-number-eq0 c =
    let a = c.args in
    let done = c.rehearse-done in
    let n = c.answer_number-number.ensures in
    let h = turned_away a.sheet.now a.world.now a.out.now a.told.now c.if-told-lt-LENGTH.false done.result done.new.world done.new.out
    done.ensures.answer done.ensures.last done.ensures.printed (λ z. c.if-number-eq0.false (n ∙ z)) in
    record { answer = n ∙ h.0; last = h.1.0; printed = h.1.1.0; length = h.1.1.1 }

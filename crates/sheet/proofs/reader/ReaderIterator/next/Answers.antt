-- `next` of `sheet::reader::Reader` meets its contract: what is taken at the reader's position is the first of the steps that are left. Assumes nothing.
use mathlib.Core.Path.{refl, sym, ◌∙◌}
use Rattle.sheet.proofs.Walk.{taken_some, taken_none, first_left, fewer_left}
use Rattle.sheet.proofs.reader.ReaderIterator.next.Goals as goal

pub returns-in_err-step-clause-steps : goal.returns-in_err-step-clause-steps
returns-in_err-step-clause-steps c =
    let s = c.args.self.now in
    let end = taken_none s.sheet.now s.at (sym c.read_at.ensures ∙ c.in_err-step.was) in
    let none = c.from_residual.ensures ∙ end.0 in
    (none, (refl, end.1), first_left s _ _ none end.1)

pub returns-clause-steps : goal.returns-clause-steps
returns-clause-steps c =
    let s = c.args.self.now in
    let step = taken_some s.sheet.now s.at _ _ (sym c.read_at.ensures ∙ c.in_ok-step.was) in
    (step.0, (refl, step.1), first_left s _ _ step.0 step.1)

pub returns-clause-goes : goal.returns-clause-goes
returns-clause-goes c =
    let s = c.args.self.now in
    let step = taken_some s.sheet.now s.at _ _ (sym c.read_at.ensures ∙ c.in_ok-step.was) in
    fewer_left _ _ _ (first_left s _ _ step.0 step.1)

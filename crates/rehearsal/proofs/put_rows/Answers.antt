-- `rehearsal::put_rows` meets its contract. Assumes nothing.
use mathlib.Core.Path.{refl, ap, ◌∙◌}
use Prim.Native.Nat.{◌≤◌}
use native.Mathlib.Omega.{arith}
use lib.ListN.{length, get_or}
use Rattle.sheet.specs.Reading.{steps_from, steps_left}
use Rattle.sheet.proofs.Walk.{all_left}
use Rattle.world.proofs.Tracing.{shown_few, begins}
use Rattle.rehearsal.proofs.Playing.{little, lining_none, lining_room, lining_more, lining_all, few}
use Rattle.rehearsal.proofs.put_rows.Goals as goal

pub loop-step-init : goal.loop-step-init
loop-step-init c =
    let e = c.new-step-items.ensures in
    let all = ap steps_left c.into_iter-step-iterator.ensures.into_iter_gives ∙ all_left _ _ e.0 e.1 in
    let formed = begins c.args.sheet.now (get_or c.args.sheet.now 5 0) c.requires.sheet_value refl (omega (arith, c.type_inv.sheet 5)) in
    rw all (lining_none formed c.requires.begins (omega arith) (omega arith))

pub put_row-line-requires : goal.put_row-line-requires
put_row-line-requires c = lining_room c.loop-step.invariant _ _ c.in-Some.ensures.steps.2

pub overflow_add-tally : goal.overflow_add-tally
overflow_add-tally c =
    let most : length (steps_from c.args.sheet.now 6) ≤ 8000 = shown_few c.args.sheet.now c.requires.sheet_value in
    omega (arith, (few c.loop-step.invariant).0, most, (little c.put_row-line.ensures).0)

pub overflow_add-tally-in-loop-step : goal.overflow_add-tally-in-loop-step
overflow_add-tally-in-loop-step c =
    let most : length (steps_from c.args.sheet.now 6) ≤ 8000 = shown_few c.args.sheet.now c.requires.sheet_value in
    omega (arith, (few c.loop-step.invariant).1, most, (little c.put_row-line.ensures).1)

pub overflow_add-number : goal.overflow_add-number
overflow_add-number c =
    let most : length (steps_from c.args.sheet.now 6) ≤ 8000 = shown_few c.args.sheet.now c.requires.sheet_value in
    omega (arith, c.loop-step.invariant.taken, most)

pub overflow_add-row : goal.overflow_add-row
overflow_add-row c = omega (arith, lining_room c.loop-step.invariant _ _ c.in-Some.ensures.steps.2)

pub loop-step-preserved : goal.loop-step-preserved
loop-step-preserved c = lining_more c.loop-step.invariant _ _ c.in-Some.ensures.steps.2 _ c.put_row-line.result c.put_row-line.ensures

pub returns : goal.returns
returns c = lining_all c.loop-step.invariant c.in-None.ensures.steps.2.0

-- `rehearsal::rehearse` meets its contract. Assumes nothing.
use mathlib.Core.Path.{sym, ◌∙◌}
use Prim.Native.Nat.{◌<◌}
use native.Mathlib.Omega.{arith}
use borrow.Author.Rules.{rules}
use Rattle.world.proofs.Tracing.{found_facts, few_found}
use Rattle.rehearsal.proofs.Playing.{misfit, left-bad, left-full, left_good}
use Rattle.rehearsal.proofs.rehearse.Goals as goal

pub returns-then-world-ne-WORLD_WIDTH : goal.returns-then-world-ne-WORLD_WIDTH
returns-then-world-ne-WORLD_WIDTH c =
    let h = misfit c.args.sheet.now c.args.world.now c.args.out.now c.if-world-ne-WORLD_WIDTH.true in
    record { answer = h.answer; last = h.last; printed = h.printed }

pub returns-in-Err : goal.returns-in-Err
returns-in-Err c =
    let e = sym c.check.ensures ∙ c.in-Err.is in
    let put = c.refuse_sheet.ensures in
    let h = left-bad c.args.sheet.now c.args.world.now c.args.out.now c.if-world-ne-WORLD_WIDTH.false c.in-Err.field-0 e
    c.refuse_sheet.result c.refuse_sheet.new.out put.answer put.bytes in
    record { answer = h.answer; last = h.last; printed = h.printed }

pub overflow_mul-found : goal.overflow_mul-found
overflow_mul-found c = omega (arith, few_found c.args.sheet.now c.in-Ok.found (sym c.check.ensures ∙ c.in-Ok.is))

pub overflow_add-found : goal.overflow_add-found
overflow_add-found c = omega (arith, few_found c.args.sheet.now c.in-Ok.found (sym c.check.ensures ∙ c.in-Ok.is))

pub returns-in-Ok : goal.returns-in-Ok
returns-in-Ok c =
    let e = sym c.check.ensures ∙ c.in-Ok.is in
    let h = left-full c.args.sheet.now c.args.world.now c.args.out.now c.if-world-ne-WORLD_WIDTH.false c.in-Ok.found e c.if-out-found.true in
    record { answer = h.answer; last = h.last; printed = h.printed }

pub play-requires : goal.play-requires
play-requires c = (c.if-world-ne-WORLD_WIDTH.false, found_facts c.args.sheet.now c.in-Ok.found (sym c.check.ensures ∙ c.in-Ok.is))

pub returns-in-Ok-2 : goal.returns-in-Ok-2
returns-in-Ok-2 c =
    let x = c.in-Ok.found in
    let e = sym c.check.ensures ∙ c.in-Ok.is in
    let small : x.mask < 256 = search rules in
    let put = c.play.ensures in
    let h = left_good c.args.sheet.now c.args.world.now c.args.out.now c.if-world-ne-WORLD_WIDTH.false x e c.if-out-found.false small _ _
    c.play.result put.position put.bytes put.world in
    record { answer = h.answer; last = h.last; printed = h.printed }

-- `world::run::trace` meets its contract. Assumes nothing.
use Rattle.std.specs.Prelude.{Err}
use mathlib.Core.Path.{◌≡◌, sym, ◌∙◌}
use Prim.Native.Nat.{◌<◌}
use native.Mathlib.Omega.{arith}
use borrow.Author.Rules.{rules}
use Rattle.world.proofs.Tracing.{found_facts, few_found, steps_long, started, misfit, left-bad, left-full, left_good}
use Rattle.world.proofs.run.trace.Goals as goal

pub returns-then-world-ne-WORLD_WIDTH : goal.returns-then-world-ne-WORLD_WIDTH
returns-then-world-ne-WORLD_WIDTH c =
    let h = misfit c.args.sheet.now c.args.world.now c.args.rows.now c.if-world-ne-WORLD_WIDTH.true in
    record { answer = h.answer; last = h.last; rows = h.rows }

pub returns-in_err-found : goal.returns-in_err-found
returns-in_err-found c =
    let is : c.from_residual.result ≡ Err c.in_err-found.field-0.0 = search rules in
    let h = left-bad c.args.sheet.now c.args.world.now c.args.rows.now c.if-world-ne-WORLD_WIDTH.false _ (sym c.check.ensures ∙ c.in_err-found.was) in
    record { answer = is ∙ h.answer; last = h.last; rows = h.rows }

pub overflow_mul-found : goal.overflow_mul-found
overflow_mul-found c = omega (arith, few_found c.args.sheet.now c.in_ok-found.found (sym c.check.ensures ∙ c.in_ok-found.was))

pub returns-then-rows-found : goal.returns-then-rows-found
returns-then-rows-found c =
    let h = left-full c.args.sheet.now c.args.world.now c.args.rows.now c.if-world-ne-WORLD_WIDTH.false _ (sym c.check.ensures ∙ c.in_ok-found.was)
    c.if-rows-found.true in
    record { answer = h.answer; last = h.last; rows = h.rows }

pub turns-requires : goal.turns-requires
turns-requires c =
    let x = c.in_ok-found.found in
    let e = sym c.check.ensures ∙ c.in_ok-found.was in
    let small : x.mask < 256 = search rules in
    let f = found_facts c.args.sheet.now x e in
    let began = started c.args.sheet.now x.mask f.0 f.1 small c.args.world.now c.start.new.w c.start.result c.if-world-ne-WORLD_WIDTH.false c.start.ensures in
    record {
      w_value = (began.0, f.0);
      trace_row_width_in_bounds = omega (arith, steps_long c.args.sheet.now x e, c.if-rows-found.false);
    }

pub returns : goal.returns
returns c =
    let x = c.in_ok-found.found in
    let e = sym c.check.ensures ∙ c.in_ok-found.was in
    let small : x.mask < 256 = search rules in
    let f = found_facts c.args.sheet.now x e in
    let began = started c.args.sheet.now x.mask f.0 f.1 small c.args.world.now c.start.new.w c.start.result c.if-world-ne-WORLD_WIDTH.false c.start.ensures in
    let h = left_good c.args.sheet.now c.args.world.now c.args.rows.now c.if-world-ne-WORLD_WIDTH.false x e c.if-rows-found.false c.start.new.w _ _ began.1.0
    c.turns.ensures.world c.turns.ensures.rows in
    record { answer = h.answer; last = h.last; rows = h.rows }

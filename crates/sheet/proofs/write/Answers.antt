-- `sheet::write` meets its contract. Assumes nothing.
use mathlib.Core.Path.{sym, ◌∙◌}
use Prim.Native.Nat.{◌≤◌}
use native.Mathlib.Omega.{arith}
use lib.ListN.{length}
use Rattle.rules.specs.Sheets.{version1}
use Rattle.sheet.specs.Writing.{ruled_size}
use Rattle.sheet.proofs.Writing.{bad, few, counted, roomless, done, left}
use Rattle.sheet.proofs.write.Goals as goal

pub returns-then-is_no_sheet : goal.returns-then-is_no_sheet
unfolding ruled_size
returns-then-is_no_sheet c =
    let a = c.args in
    let e = bad a.buf.now a.mask a.kinds.now a.ids.now a.values.now (sym c.is_no_sheet.ensures ∙ c.if-is_no_sheet.true) in
    record { answer = (rw e, rw e); left = rw e }

pub overflow_mul-size : goal.overflow_mul-size
overflow_mul-size c =
    let a = c.args in
    let t = sym c.is_no_sheet.ensures ∙ c.if-is_no_sheet.false in
    let few_steps : length a.kinds.now ≤ version1.most_steps = few a.buf.now a.mask a.kinds.now a.ids.now a.values.now t in
    omega (arith, few_steps)

pub overflow_add-size : goal.overflow_add-size
overflow_add-size c =
    let a = c.args in
    let t = sym c.is_no_sheet.ensures ∙ c.if-is_no_sheet.false in
    let few_steps : length a.kinds.now ≤ version1.most_steps = few a.buf.now a.mask a.kinds.now a.ids.now a.values.now t in
    omega (arith, few_steps)

pub returns-then-buf-size : goal.returns-then-buf-size
unfolding ruled_size
returns-then-buf-size c =
    let a = c.args in
    let t = sym c.is_no_sheet.ensures ∙ c.if-is_no_sheet.false in
    let e = roomless a.buf.now a.mask a.kinds.now a.ids.now a.values.now t c.if-buf-size.true in
    record { answer = (rw e, rw e); left = rw e }

pub put_steps-requires : goal.put_steps-requires
put_steps-requires c =
    let a = c.args in
    omega (arith, counted a.buf.now a.mask a.kinds.now a.ids.now a.values.now (sym c.is_no_sheet.ensures ∙ c.if-is_no_sheet.false))

pub returns : goal.returns
returns c =
    let a = c.args in
    let t = sym c.is_no_sheet.ensures ∙ c.if-is_no_sheet.false in
    record {
      answer = done a.buf.now a.mask a.kinds.now a.ids.now a.values.now t c.if-buf-size.false;
      left = left a.buf.now a.mask a.kinds.now a.ids.now a.values.now t c.if-buf-size.false _ _ c.put_head.ensures c.put_steps.ensures;
    }

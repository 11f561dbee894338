-- `sheet::step_at` meets its contract. Assumes nothing.
use Rattle.std.proofs.Common.{◌≡◌, ◌+◌, ◌≤◌, ◌<◌, length, take, drop, get_or, sym, ap, ◌∙◌, Some, arith}
use Rattle.rows.specs.Bytes.{u32_at}
use Rattle.rules.specs.Sheets.{version1, form_of}
use Rattle.sheet.proofs.Reading.{step-none, step-some}
use Rattle.sheet.proofs.Fronts.{past_lem, front_step}
use Rattle.sheet.proofs.step_at.Goals as goal

pub returns-in_err-get : goal.returns-in_err-get
unfolding form_of
returns-in_err-get c =
    let short : length c.args.b.now < c.args.at + 8 = omega (arith, c.in_err-get.ensures.lookup) in
    c.from_residual.ensures ∙ sym (step-none _ _ short)

pub returns-in_err-step : goal.returns-in_err-step
unfolding form_of
returns-in_err-step c =
    let short : length c.args.b.now < c.args.at + 8 = omega (arith, c.in_ok-get.ensures.lookup, c.in_err-step.ensures.cases) in
    c.from_residual-in_err-step.ensures ∙ sym (step-none _ _ short)

pub returns : goal.returns
unfolding form_of
returns c =
    let past = c.in_ok-get.ensures.lookup.0 in
    let first = c.in_ok-step.ensures.cases in
    let room : c.args.at + 8 ≤ length c.args.b.now = omega (arith, past, first) in
    let front : c.in_ok-step.step.now ≡ take 8 (drop c.args.at c.args.b.now) = first.same ∙ ap (take 8) (past.2 ∙ past_lem c.args.b.now c.args.at) in
    let value = c.read_u32.ensures ∙ ap (λ l. u32_at l 4) front in
    (λ i. Some (record { kind = get_or (front i) 0 0; id = get_or (front i) 1 0; value = value i }))
    ∙ ap Some (front_step version1 (drop c.args.at c.args.b.now)) ∙ sym (step-some _ _ room)

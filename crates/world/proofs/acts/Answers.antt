-- `world::acts` meets its contract. Assumes nothing.
use mathlib.Core.Path.{◌≡◌, refl, sym, ap, ◌∙◌}
use native.Mathlib.Omega.{arith}
use borrow.Author.Rules.{rules}
use Rattle.rules.specs.Coded.{kind_number}
use Rattle.rules.specs.State.{no_relay, no_desk}
use Rattle.rules.specs.Desks.{write_asked}
use Rattle.state.specs.Meaning.{part_of}
use Rattle.state.specs.Plans.{plan_of, desk_plan_of, planned}
use Rattle.relay.specs.Fitting.{timer_answer}
use Rattle.locality.specs.Asked.{relay_asked, desk_asked}
use Rattle.locality.proofs.Fits.{join_fits, timer_fits}
use Rattle.layout.specs.Image.{world_at}
use Rattle.layout.specs.Lent.{left}
use Rattle.world.proofs.Routes.{join_steps, leave_steps, timer_steps, read_steps, write-steps, delivers_told, drops_told, crash_told, step_left}
use Rattle.world.proofs.acts.Goals as goal

pub returns-in-Join : goal.returns-in-Join
unfolding relay_asked
returns-in-Join c =
    let number : c.args.k.kind ≡ 1 = c.requires.kind ∙ ap kind_number c.in-Join.is in
    let none : c.args.k.value ≡ 0 = (c.requires.value (λ e. let q = sym (ap kind_number c.in-Join.is) ∙ ap kind_number e in absurd (omega arith))) in
    c.relay_acts.ensures 1 (λ p plan low own h. h.1 ∙ ap (planned no_relay) (join_fits c.args.k.id (part_of p) low))
    ∙ ap (left c.args.w.now) (sym (join_steps c.args.k (world_at c.args.w.now) none number)) ∙ step_left c.args.w.now c.requires.good c.args.k _ refl

pub returns-in-Leave : goal.returns-in-Leave
unfolding relay_asked
returns-in-Leave c =
    let number : c.args.k.kind ≡ 2 = c.requires.kind ∙ ap kind_number c.in-Leave.is in
    let none : c.args.k.value ≡ 0 = (c.requires.value (λ e. let q = sym (ap kind_number c.in-Leave.is) ∙ ap kind_number e in absurd (omega arith))) in
    c.relay_acts-in-Leave.ensures 2 (λ p plan low own h. h.1)
    ∙ ap (left c.args.w.now) (sym (leave_steps c.args.k (world_at c.args.w.now) none number)) ∙ step_left c.args.w.now c.requires.good c.args.k _ refl

pub returns-in-Timer : goal.returns-in-Timer
unfolding relay_asked
returns-in-Timer c =
    let number : c.args.k.kind ≡ 3 = c.requires.kind ∙ ap kind_number c.in-Timer.is in
    let none : c.args.k.value ≡ 0 = (c.requires.value (λ e. let q = sym (ap kind_number c.in-Timer.is) ∙ ap kind_number e in absurd (omega arith))) in
    c.relay_acts-in-Timer.ensures 3 (λ p plan low own h. let k : plan_of plan ≡ planned no_relay (timer_answer (part_of p)) = search rules in
    k ∙ ap (planned no_relay) (timer_fits (part_of p) own))
    ∙ ap (left c.args.w.now) (sym (timer_steps c.args.k (world_at c.args.w.now) none number)) ∙ step_left c.args.w.now c.requires.good c.args.k _ refl

pub returns-in-Read : goal.returns-in-Read
unfolding desk_asked
returns-in-Read c =
    let number : c.args.k.kind ≡ 4 = c.requires.kind ∙ ap kind_number c.in-Read.is in
    let none : c.args.k.value ≡ 0 = (c.requires.value (λ e. let q = sym (ap kind_number c.in-Read.is) ∙ ap kind_number e in absurd (omega arith))) in
    c.desk_acts.ensures 4 0 (λ d plan h. h.1)
    ∙ ap (left c.args.w.now) (sym (read_steps c.args.k (world_at c.args.w.now) none number)) ∙ step_left c.args.w.now c.requires.good c.args.k _ refl

pub returns-in-Write : goal.returns-in-Write
unfolding desk_asked
returns-in-Write c =
    let number : c.args.k.kind ≡ 5 = c.requires.kind ∙ ap kind_number c.in-Write.is in
    c.desk_acts-in-Write.ensures 5 c.args.k.value (λ d plan h. let k : desk_plan_of plan ≡ planned no_desk (write_asked d c.args.k.value) = search rules in k)
    ∙ ap (left c.args.w.now) (sym (write-steps c.args.k (world_at c.args.w.now) number (search rules))) ∙ step_left c.args.w.now c.requires.good c.args.k _ refl

pub returns-in-Deliver : goal.returns-in-Deliver
returns-in-Deliver c =
    let number : c.args.k.kind ≡ 6 = c.requires.kind ∙ ap kind_number c.in-Deliver.is in
    let none : c.args.k.value ≡ 0 = (c.requires.value (λ e. let q = sym (ap kind_number c.in-Deliver.is) ∙ ap kind_number e in absurd (omega arith))) in
    c.deliver.ensures ∙ step_left c.args.w.now c.requires.good c.args.k _ (delivers_told c.args.k (world_at c.args.w.now) none number (search rules))

pub returns-in-Drop : goal.returns-in-Drop
returns-in-Drop c =
    let number : c.args.k.kind ≡ 7 = c.requires.kind ∙ ap kind_number c.in-Drop.is in
    let none : c.args.k.value ≡ 0 = (c.requires.value (λ e. let q = sym (ap kind_number c.in-Drop.is) ∙ ap kind_number e in absurd (omega arith))) in
    c.drops.ensures ∙ step_left c.args.w.now c.requires.good c.args.k _ (drops_told c.args.k (world_at c.args.w.now) none number (search rules))

pub returns-in-Crash : goal.returns-in-Crash
returns-in-Crash c =
    let number : c.args.k.kind ≡ 8 = c.requires.kind ∙ ap kind_number c.in-Crash.is in
    let none : c.args.k.value ≡ 0 = (c.requires.value (λ e. let q = sym (ap kind_number c.in-Crash.is) ∙ ap kind_number e in absurd (omega arith))) in
    c.crash.ensures ∙ ap (left c.args.w.now) (sym (crash_told c.args.k (world_at c.args.w.now) none number))
    ∙ step_left c.args.w.now c.requires.good c.args.k _ refl

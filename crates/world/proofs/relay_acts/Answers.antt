-- `world::relay_acts` meets its contract. Assumes nothing.
use mathlib.Core.Path.{◌≡◌, refl, sym, ap, ◌∙◌}
use Prim.Native.Nat.{ℕ, ◌+◌}
use borrow.Author.Tests.{lt-ltb, le-ltb, not-true, not-false}
use Rattle.rules.specs.Messages.{bad_step, dead}
use Rattle.rules.specs.declared.Refusal.TheVariants.{BadStep, Dead}
use Rattle.rules.specs.State.{Relay, no_relay, relay_at}
use Rattle.rules.specs.Steps.{relay_does}
use Rattle.layout.specs.Layout.{head_view}
use Rattle.layout.specs.Image.{world_at}
use Rattle.rows.specs.Bytes.{u16_at}
use Rattle.state.specs.Meaning.{part_of}
use Rattle.state.specs.Plans.{planned}
use Rattle.locality.specs.Narrow.{move, narrow}
use Rattle.locality.specs.Asked.{relay_asked}
use Rattle.locality.proofs.Wide.{asked_wide}
use Rattle.locality.proofs.Few.{asked_few}
use Rattle.locality.proofs.Fits.{shows_own}
use Rattle.world.proofs.Good.{view_at}
use Rattle.world.proofs.Commit.{refused_kept}
use Rattle.world.proofs.Routes.{none-delivered, relay_step, dead-left, alive-left}
use Rattle.world.proofs.relay_acts.Goals as goal

pub returns-in_default : goal.returns-in_default
returns-in_default c d kind h = refused_kept BadStep bad_step d.args.w.now refl ∙ rw (le-ltb d.args.s 8 (d.of.ensures.none d.in_default.is))

pub returns-then-not-alive_at : goal.returns-then-not-alive_at
returns-then-not-alive_at c d kind h =
    let s = d.in-Some.s in
    let w = world_at d.args.w.now in
    refused_kept Dead dead d.args.w.now refl
    ∙ dead-left d.args.w.now s.number (relay_does w 0 s.number (relay_asked kind s.number (relay_at w s.number)))
    (sym d.alive_at.ensures ∙ not-true _ d.if-not-alive_at.true-raw)
    ∙ rw (← d.in-Some.ensures.relay, lt-ltb s.number 8 s.is_relay)

pub returns : goal.returns
returns c d kind h =
    let s = d.in-Some.s in
    let same = d.in-Some.ensures.relay in
    let w = world_at d.args.w.now in
    let r = relay_at w s.number in
    let seen : d.read_u16-view.result ≡ r.view =
    d.read_u16-view.ensures ∙ ap (λ (i : ℕ). u16_at d.args.w.now (i + head_view)) d.row.ensures ∙ view_at d.args.w.now s.number s.is_relay in
    let shown : part_of d.part_at-part.result ≡ narrow r r.view (move 0 0) = rw seen at d.part_at-part.ensures in
    let ask = relay_asked kind s.number (narrow r r.view (move 0 0)) in
    d.relay_commits.ensures 0 ask
    ((rw (← same) at h) d.part_at-part.result d.ask.result s.is_relay (rw shown (shows_own r)) d.ask.ensures
    ∙ ap (λ (p : Relay). planned no_relay (relay_asked kind s.number p)) shown)
    (asked_few s.number _ kind) (none-delivered w)
    ∙ relay_step d.args.w.now s.number (relay_asked kind s.number r) ask (asked_wide kind s.number r)
    ∙ alive-left d.args.w.now s.number (relay_does w 0 s.number (relay_asked kind s.number r))
    (sym d.alive_at.ensures ∙ not-false _ d.if-not-alive_at.false-raw)
    ∙ rw (← same, lt-ltb s.number 8 s.is_relay)

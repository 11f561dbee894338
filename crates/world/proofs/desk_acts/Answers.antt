-- `world::desk_acts` meets its contract. Assumes nothing.
use mathlib.Core.Path.{◌≡◌, refl, sym, ap, ◌∙◌}
use Prim.Native.Nat.{◌+◌}
use borrow.Author.Tests.{lt-ltb, le-ltb, not-true, not-false}
use Rattle.rules.specs.Messages.{bad_step, dead}
use Rattle.rules.specs.declared.Refusal.TheVariants.{BadStep, Dead}
use Rattle.rules.specs.State.{no_desk, desk_at}
use Rattle.rules.specs.Steps.{desk_does}
use Rattle.rules.specs.declared.Desk.{Desk}
use Rattle.layout.specs.Image.{world_at}
use Rattle.state.specs.Plans.{planned}
use Rattle.locality.specs.Asked.{desk_asked}
use Rattle.locality.proofs.Few.{desk_asked_few}
use Rattle.world.proofs.Good.{desk_at_lem}
use Rattle.world.proofs.Commit.{refused_kept, desk_row}
use Rattle.world.proofs.Routes.{none-delivered, desk-step, dead-left, alive-left}
use Rattle.world.proofs.desk_acts.Goals as goal

pub returns-then-n-ge-DESKS : goal.returns-then-n-ge-DESKS
returns-then-n-ge-DESKS c d kind x h = refused_kept BadStep bad_step d.args.w.now refl ∙ rw (le-ltb d.args.n 4 d.if-n-ge-DESKS.true)

pub returns-then-not-alive_at : goal.returns-then-not-alive_at
returns-then-not-alive_at c d kind x h =
    let w = world_at d.args.w.now in
    refused_kept Dead dead d.args.w.now refl
    ∙ dead-left d.args.w.now (8 + d.args.n) (desk_does w 0 d.args.n (desk_asked kind x (desk_at w d.args.n)))
    (sym d.alive_at.ensures ∙ not-true _ d.if-not-alive_at.true-raw)
    ∙ rw (lt-ltb d.args.n 4 d.if-n-ge-DESKS.false)

pub returns : goal.returns
returns c d kind x h =
    let low = d.if-n-ge-DESKS.false in
    let w = world_at d.args.w.now in
    let desk = desk_at w d.args.n in
    let ask = desk_asked kind x desk in
    let is : d.desk_at-desk.result ≡ desk = rw (d.row_of.ensures ∙ desk_row d.args.n) at d.desk_at-desk.ensures ∙ sym (desk_at_lem d.args.w.now d.args.n low) in
    d.desk_commits.ensures 0 ask
    (h d.desk_at-desk.result d.ask.result d.ask.ensures ∙ ap (λ (e : Desk). planned no_desk (desk_asked kind x e)) is)
    (desk_asked_few kind x desk) (none-delivered w)
    ∙ desk-step d.args.w.now d.args.n ask
    ∙ alive-left d.args.w.now (8 + d.args.n) (desk_does w 0 d.args.n ask) (sym d.alive_at.ensures ∙ not-false _ d.if-not-alive_at.false-raw)
    ∙ rw (lt-ltb d.args.n 4 low)

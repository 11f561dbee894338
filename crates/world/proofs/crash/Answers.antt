-- `world::crash` meets its contract. Assumes nothing.
use mathlib.Core.Path.{refl, sym, ◌∙◌}
use Prim.Native.Nat.{◌<◌}
use native.Mathlib.Omega.{arith}
use borrow.Author.Tests.{lt-ltb, le-ltb, not-true, not-false}
use Rattle.rules.specs.Messages.{bad_step, dead}
use Rattle.rules.specs.declared.Refusal.TheVariants.{BadStep, Dead}
use Rattle.rules.specs.Steps.{no_report, crashing}
use Rattle.layout.specs.Image.{world_at}
use Rattle.world.specs.declared.Report.TheVariants.{Nothing}
use Rattle.world.specs.Answer.{report_of}
use Rattle.world.proofs.Begun.{crash-left}
use Rattle.world.proofs.Commit.{refused_kept, done_accepted}
use Rattle.world.proofs.Routes.{dead-left, alive-left}
use Rattle.world.proofs.crash.Goals as goal

pub returns-then-who-ge-EVERYONE : goal.returns-then-who-ge-EVERYONE
returns-then-who-ge-EVERYONE c = refused_kept BadStep bad_step c.args.w.now refl ∙ rw (le-ltb c.args.who 12 c.if-who-ge-EVERYONE.true)

pub returns-then-not-alive_at : goal.returns-then-not-alive_at
returns-then-not-alive_at c =
    let low : c.args.who < 12 = omega arith in
    refused_kept Dead dead c.args.w.now refl
    ∙ dead-left c.args.w.now c.args.who (crashing (world_at c.args.w.now) c.args.who) (sym c.alive_at.ensures ∙ not-true _ c.if-not-alive_at.true-raw)
    ∙ rw (lt-ltb c.args.who 12 low)

pub returns : goal.returns
unfolding report_of
returns c =
    let low : c.args.who < 12 = omega arith in
    done_accepted Nothing no_report _ refl
    ∙ crash-left c.args.w.now c.requires c.args.who low _ (rw c.row_of.ensures at c.put_byte.ensures)
    ∙ alive-left c.args.w.now c.args.who (crashing (world_at c.args.w.now) c.args.who) (sym c.alive_at.ensures ∙ not-false _ c.if-not-alive_at.false-raw)
    ∙ rw (lt-ltb c.args.who 12 low)

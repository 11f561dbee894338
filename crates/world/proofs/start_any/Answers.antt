-- `world::start_any` meets its contract. Assumes nothing.
use mathlib.Core.Path.{refl, ◌∙◌}
use Prim.Native.Nat.{◌<◌}
use borrow.Author.Rules.{rules}
use Rattle.rules.specs.Messages.{bad_world, bad_step}
use Rattle.rules.specs.declared.Refusal.TheVariants.{BadWorld, BadStep}
use Rattle.rules.specs.Steps.{no_report}
use Rattle.world.specs.declared.Report.TheVariants.{Nothing}
use Rattle.world.specs.Answer.{report_of}
use Rattle.world.proofs.Begun.{start_misfit, start_none, start-done}
use Rattle.world.proofs.Commit.{refused_kept, done_accepted}
use Rattle.world.proofs.start_any.Goals as goal

pub returns-then-w-ne-WORLD_WIDTH : goal.returns-then-w-ne-WORLD_WIDTH
returns-then-w-ne-WORLD_WIDTH c =
    refused_kept BadWorld bad_world c.args.w.now refl ∙ start_misfit c.args.w.now c.args.mask c.if-w-ne-WORLD_WIDTH.true

pub returns-then-mask-eq0 : goal.returns-then-mask-eq0
returns-then-mask-eq0 c =
    refused_kept BadStep bad_step c.args.w.now refl ∙ start_none c.args.w.now c.args.mask c.if-w-ne-WORLD_WIDTH.false c.if-mask-eq0.true

pub returns : goal.returns
unfolding report_of
returns c =
    let small : c.args.mask < 256 = search rules in
    done_accepted Nothing no_report _ refl
    ∙ start-done c.args.w.now c.args.mask c.if-w-ne-WORLD_WIDTH.false c.if-mask-eq0.false small _ _ _ c.clear.ensures c.put_relays.ensures c.put_desks.ensures

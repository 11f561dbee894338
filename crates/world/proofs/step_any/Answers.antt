-- `world::step_any` meets its contract. Assumes nothing.
use mathlib.Core.Path.{refl, sym, ◌∙◌}
use borrow.Author.Tests.{not-true}
use Rattle.rules.specs.Messages.{bad_world}
use Rattle.rules.specs.declared.Refusal.TheVariants.{BadWorld}
use Rattle.world.proofs.Commit.{refused_kept}
use Rattle.world.proofs.Routes.{world-left}
use Rattle.world.proofs.step_any.Goals as goal

pub returns-then-not-is_good : goal.returns-then-not-is_good
returns-then-not-is_good c =
    refused_kept BadWorld bad_world c.args.w.now refl
    ∙ world-left c.args.w.now (sym c.is_good.ensures ∙ not-true _ c.if-not-is_good.true-raw) c.args.k

-- `world::drops` meets its contract. Assumes nothing.
use mathlib.Core.Path.{refl, sym, ◌∙◌}
use Prim.Native.Nat.{◌<◌}
use borrow.Author.Rules.{rules}
use Rattle.rules.specs.Messages.{empty}
use Rattle.rules.specs.declared.Refusal.TheVariants.{Empty}
use Rattle.rules.specs.Steps.{no_report}
use Rattle.layout.specs.Image.{world_at}
use Rattle.layout.proofs.World.{good_image}
use Rattle.world.specs.declared.Report.TheVariants.{Nothing}
use Rattle.world.specs.Answer.{report_of}
use Rattle.world.proofs.Good.{shaped}
use Rattle.world.proofs.Commit.{refused_kept, done_accepted}
use Rattle.world.proofs.Routes.{drop_empty, drop-left}
use Rattle.world.proofs.drops.Goals as goal

pub returns-then-is_free : goal.returns-then-is_free
returns-then-is_free c =
    let small : c.args.p < 256 = search rules in
    refused_kept Empty empty c.args.w.now refl ∙ drop_empty c.args.w.now c.requires c.args.p small (sym c.is_free.ensures ∙ c.if-is_free.true)

pub returns : goal.returns
unfolding report_of
returns c =
    let small : c.args.p < 256 = search rules in
    done_accepted Nothing no_report _ refl
    ∙ drop-left c.args.w.now c.requires c.args.p small (sym c.is_free.ensures ∙ c.if-is_free.false) _
    (c.free.ensures (world_at c.args.w.now) (shaped c.args.w.now c.requires).places (sym (good_image c.args.w.now c.requires)))

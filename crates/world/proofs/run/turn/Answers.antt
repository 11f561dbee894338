-- `world::run::turn` meets its contract. Assumes nothing.
use mathlib.Core.Path.{ap, ◌∙◌}
use Rattle.layout.specs.Image.{world_at}
use Rattle.world.specs.declared.Answer.{Answer}
use Rattle.world.specs.Answer.{lent_of}
use Rattle.world.proofs.Tracing.{step_answered, done_answered, turned}
use Rattle.world.proofs.run.turn.Goals as goal

pub step_good-requires : goal.step_good-requires
step_good-requires c = c.requires

pub returns : goal.returns
returns c =
    let done = c.step_good in
    let told = ap (λ (a : Answer). lent_of a done.new.w) c.from-a.ensures ∙ done_answered done.result done.new.w ∙ done.ensures in
    turned (world_at c.args.w.now) c.args.k c.args.at c.args.rows.now c.from-a.result _ _
    (step_answered c.args.w.now c.requires c.from-a.result _ c.args.k told) c.put_row.ensures

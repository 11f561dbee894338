-- `rehearsal::put_totals` meets its contract. Assumes nothing.
use mathlib.Core.Path.{◌∙◌}
use Rattle.world.proofs.Tracing.{waiting_rows_lem}
use Rattle.rehearsal.proofs.put_totals.Goals as goal

pub returns : goal.returns
returns c = record {
  position = λ W formed e. rw (c.waiting-waiting.ensures ∙ waiting_rows_lem W c.args.w.now formed e) at c.put_end.ensures.position;
  bytes = λ W formed e. rw (c.waiting-waiting.ensures ∙ waiting_rows_lem W c.args.w.now formed e) at c.put_end.ensures.bytes;
}

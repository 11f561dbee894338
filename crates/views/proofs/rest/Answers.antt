-- `views::rest` meets its contract. The invariant: the row holds the views of r and those read so far. Assumes nothing.
use Rattle.views.proofs.Rows.{clean_row, row_more}
use Rattle.views.proofs.rest.Goals as goal

pub push-a-requires : goal.push-a-requires
push-a-requires c = clean_row _ _ c.loop-v.invariant

pub loop-v-preserved : goal.loop-v-preserved
loop-v-preserved c = row_more _ _ _ _ _ c.loop-v-test.true c.loop-v.invariant c.push-a.ensures

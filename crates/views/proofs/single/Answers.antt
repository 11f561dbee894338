-- `views::single` meets its contract. Assumes nothing.
use mathlib.Core.Path.{◌∙◌}
use Rattle.views.proofs.Rows.{held, clean_row}
use Rattle.views.proofs.single.Goals as goal

pub push-requires : goal.push-requires
push-requires c = clean_row _ _ c.empty.ensures

pub returns : goal.returns
returns c = c.push.ensures ∙ rw (held _ _ c.empty.ensures)

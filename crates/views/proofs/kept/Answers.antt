-- `views::kept` meets its contract. Assumes nothing.
use Rattle.std.proofs.Common.{◌∙◌}
use Rattle.views.proofs.Rows.{clean_row, row_joined}
use Rattle.views.proofs.kept.Goals as goal

pub rest-requires : goal.rest-requires
rest-requires c = clean_row _ _ c.empty.ensures

pub returns : goal.returns
returns c = row_joined _ _ _ _ c.empty.ensures c.rest.ensures ∙ rw c.as_slice.ensures.views

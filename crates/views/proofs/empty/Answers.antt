-- `views::empty` meets its contract: the row of no views, by computation. Assumes nothing.
use mathlib.Core.Path.{refl}
use Rattle.views.specs.Row.{row_of}
use Rattle.views.proofs.empty.Goals as goal

pub returns : goal.returns
unfolding row_of
returns c = refl

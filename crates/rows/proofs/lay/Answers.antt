-- `rows::lay` meets its contract. Assumes nothing.
use mathlib.Core.Path.{refl}
use native.Mathlib.Omega.{arith}
use Rattle.rows.proofs.Laws.{placed_part}
use Rattle.rows.proofs.lay.Goals as goal

pub returns : goal.returns
returns c = (refl, placed_part _ _ _ _ _ c.requires (omega arith) c.copy_from_slice.ensures.after)

-- `rows::rest_at` meets its contract. Assumes nothing.
use mathlib.Core.Path.{◌∙◌}
use native.Mathlib.Omega.{arith}
use lib.ListN.{length-drop}
use Rattle.std.proofs.lemmas.List.{take_all, drop_min}
use Rattle.rows.proofs.rest_at.Goals as goal

pub returns : goal.returns
returns c = take_all _ _ (omega (arith, length-drop c.min.result c.args.s.now)) ∙ rw c.min.ensures (drop_min c.args.at c.args.s.now)

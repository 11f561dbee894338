-- `rows::wipe` meets its contract. Assumes nothing.
use mathlib.Core.Path.{◌≡◌, refl, ◌∙◌}
use Prim.Native.Nat.{◌+◌, ◌-◌}
use native.Mathlib.Omega.{arith}
use lib.ListN.{length, take, drop, length-take, length-drop}
use Rattle.rows.proofs.Laws.{placed_part}
use Rattle.rows.proofs.Tables.{length-zeros, zeros-replicate}
use Rattle.rows.proofs.wipe.Goals as goal

pub returns : goal.returns
returns c =
    let long = length-zeros c.args.n in
    let part : length (take (c.args.at + c.args.n - c.args.at) (drop c.args.at c.args.s.now)) ≡ c.args.n =
    simp (length-take, length-drop) (omega (arith, c.requires)) in
    (refl, placed_part _ _ _ _ _ (omega (arith, c.requires)) (omega arith) (rw part at (c.fill.ensures.after (λ y h. h)) ∙ zeros-replicate _))

-- A rule at a transfer leaves its views. Assumes nothing.
use mathlib.Core.Path.{◌≡◌}
use mathlib.Core.List.{List}
use Prim.Native.Nat.{ℕ}
use Rattle.rules.specs.Stamps.{Pair}
use Rattle.rules.specs.State.{Transfer}
use Rattle.rules.specs.Relays.{transfer_for, keeps, gathers}
use Rattle.rules.proofs.Transfers.{found_old, found_new}
use Rattle.locality.specs.Narrow.{move}

module _ (o w : ℕ) (ts : List Transfer) where
  pub found_move : move (transfer_for o w ts).old (transfer_for o w ts).new ≡ move o w
  found_move = rw (found_old o w ts, found_new o w ts)

  pub keeps-move : (q : List ℕ) → (let t = keeps (transfer_for o w ts) q in move t.old t.new) ≡ move o w
  unfolding keeps
  keeps-move q = found_move

  pub gathers-move : (from : ℕ) (p : Pair) (u : ℕ) → (let t = gathers (transfer_for o w ts) from p u in move t.old t.new) ≡ move o w
  unfolding gathers
  gathers-move from p u = found_move

-- `rows::put_fields` meets its contract: what is left to write, written, gives the whole. Assumes nothing.
use mathlib.Core.Path.{◌≡◌}
use mathlib.Core.List.{List}
use Prim.Native.Nat.{ℕ}
use lib.ListN.{length, drop}
use Rattle.rows.specs.Bytes.{placed, fields_of}
use Rattle.rows.proofs.Numbers.{Ends}
use Rattle.rows.proofs.put_fields.Given as goal

-- l still lacks the fields from the i-th on, which stand at p, and with them it is l₀ with all of them
pub record Left (ws xs l₀ : List ℕ) (o : ℕ) (l : List ℕ) (p i : ℕ) : Type 0 where
  pub ends : Ends ws o p i
  pub long : length l ≡ length l₀
  pub is : placed l p (fields_of (drop i ws) (drop i xs)) ≡ placed l₀ o (fields_of ws xs)

abbrev pub invariant-loop-i : goal.invariant-loop-i
invariant-loop-i l = Left l.widths l.xs l.initial.s l.at l.s l.p l.i

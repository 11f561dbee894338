-- `rows::put_row` meets its contract: what is left to write, written, gives the whole. Assumes nothing.
use mathlib.Core.Path.{◌≡◌}
use mathlib.Core.List.{List}
use Prim.Native.Nat.{ℕ}
use lib.ListN.{length, drop}
use Rattle.rows.specs.Bytes.{placed, fields_bytes}
use Rattle.rows.specs.declared.Field.{Field}
use Rattle.rows.proofs.Row.{Ends}
use Rattle.rows.proofs.put_row.Given as goal

-- l still lacks the fields from the i-th on, which stand at p, and with them it is l₀ with all of them
pub record Left (fs : List Field) (l₀ : List ℕ) (o : ℕ) (l : List ℕ) (p i : ℕ) : Type 0 where
  pub ends : Ends fs o p i
  pub long : length l ≡ length l₀
  pub is : placed l p (fields_bytes (drop i fs)) ≡ placed l₀ o (fields_bytes fs)

abbrev pub invariant-loop-field : goal.invariant-loop-field
invariant-loop-field l = Left l.fields l.initial.s l.at l.s l.p l.field-index

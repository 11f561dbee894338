-- `rows::put_number` meets its contract. The loop goes from the last byte to the first: what is left to write, written, gives the whole.
-- Assumes nothing.
use mathlib.Core.Path.{◌≡◌}
use Rattle.rows.specs.Bytes.{placed, bytes_of}
use Rattle.rows.proofs.put_number.Given as goal

abbrev pub invariant-loop-i : goal.invariant-loop-i
invariant-loop-i l = placed l.s l.at (bytes_of l.i l.rest) ≡ placed l.initial.s l.at (bytes_of l.n l.x)

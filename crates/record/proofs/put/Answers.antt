-- `record::put` meets its contract. Assumes nothing.
use mathlib.Core.Path.{◌∙◌}
use native.Mathlib.Omega.{arith}
use Rattle.record.proofs.Laying.{laid-byte}
use Rattle.record.proofs.put.Goals as goal

pub returns : goal.returns
returns c = record { position = omega arith; bytes = c.put_byte.ensures ∙ laid-byte _ _ _ }

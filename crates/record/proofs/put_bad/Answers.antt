-- `record::put_bad` meets its contract. Assumes nothing.
use mathlib.Core.Path.{refl}
use native.Mathlib.Omega.{arith}
use Rattle.record.proofs.Laying.{printed-first, printed_then, printed_as}
use Rattle.record.proofs.put_bad.Goals as goal

pub returns : goal.returns
returns c = let both =
    printed_as _ refl (printed_then _ _ (printed-first _ (c.put_word-at.ensures.position, c.put_word-at.ensures.bytes)) (omega arith)
    (c.put_line.ensures.position, c.put_line.ensures.bytes)) in record { position = both.0; bytes = both.1 }

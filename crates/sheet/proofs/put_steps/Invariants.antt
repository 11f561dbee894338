-- `sheet::put_steps` meets its contract. What is left to write, written, gives the whole. Assumes nothing.
use lib.ListN.{length}
use Rattle.rules.specs.Sheets.{version1}
use Rattle.sheet.specs.Writing.{listed}
use Rattle.sheet.proofs.Writing.{Left}
use Rattle.sheet.proofs.put_steps.Given as goal

abbrev pub invariant-loop-kind : goal.invariant-loop-kind
invariant-loop-kind l = Left version1 (listed l.kinds l.ids l.values) l.initial.buf l.buf l.at (length l.yielded)

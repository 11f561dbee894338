-- `record::put_line` meets its contract. From the second number on, what is left makes up the tail. Assumes nothing.
use lib.ListN.{drop}
use Rattle.record.proofs.Laying.{Printing}
use Rattle.record.proofs.Digits.{tail}
use Rattle.record.proofs.put_line.Given as goal

abbrev pub invariant-loop-n : goal.invariant-loop-n
invariant-loop-n l = Printing (tail l.rest) l.initial.out l.initial.p l.out l.p (tail (drop l.n-index l.rest))

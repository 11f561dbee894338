-- `record::put_word` meets its contract. What is left makes up the word. Assumes nothing.
use lib.ListN.{drop}
use Rattle.record.proofs.Laying.{Printing}
use Rattle.record.proofs.put_word.Given as goal

abbrev pub invariant-loop-x : goal.invariant-loop-x
invariant-loop-x l = Printing l.word l.initial.out l.at l.out l.p (drop l.x-index l.word)

-- `record::put_word` meets its contract. What is left makes up the word. Assumes nothing.
use native.Mathlib.Omega.{arith}
use lib.ListN.{drop_of_length-le}
use Rattle.record.proofs.Laying.{printing_none, printing_more, printing_all, word_next}
use Rattle.record.proofs.put_word.Goals as goal

pub loop-x-init : goal.loop-x-init
loop-x-init c = printing_none (omega arith) (omega arith)

pub loop-x-preserved : goal.loop-x-preserved
loop-x-preserved c = printing_more _ _ _ c.loop-x.invariant (word_next _ _ c.loop-x-test.true) (c.put-p.ensures.position, c.put-p.ensures.bytes)

pub returns : goal.returns
returns c = let both = printing_all c.loop-x.invariant (drop_of_length-le _ c.loop-x-test.false) in record { position = both.0; bytes = both.1 }

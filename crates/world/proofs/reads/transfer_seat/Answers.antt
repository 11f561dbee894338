-- `world::reads::transfer_seat` meets its contract. Assumes nothing.
use native.Mathlib.Omega.{arith}
use borrow.Author.Rules.{rules}
use borrow.Author.Tests.{tests}
use Rattle.world.specs.Commits.{ends_move}
use Rattle.world.proofs.Lists.{found_by}
use Rattle.world.proofs.reads.transfer_seat.Goals as goal

pub returns : goal.returns
unfolding ends_move
returns c =
    found_by _ _ _ (ends_move c.args.w.now c.args.at c.args.o c.args.n) _ (omega arith) (λ k h. absurd (omega arith)) c.find.ensures.ran
    (λ x b q k. search (rules, tests))

-- `Desk::begun` meets its contract. Assumes nothing.
use borrow.Author.Tests.{le-leb, lt-leb}
use Rattle.rules.specs.Desks.{begun}
use Rattle.rules.proofs.Desk.begun.Goals as goal

pub returns-then-self-ge65535 : goal.returns-then-self-ge65535
unfolding begun
returns-then-self-ge65535 c = rw (le-leb _ _ c.if-self-ge65535.true)

pub returns : goal.returns
unfolding begun
returns c = rw (lt-leb _ _ c.if-self-ge65535.false) c.cleared.ensures

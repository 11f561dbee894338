-- `Desk::ended` meets its contract. Assumes nothing.
use Rattle.rules.proofs.Desk.ended.Goals as goal

pub returns : goal.returns
returns c = rw c.fresh.ensures at c.cleared.ensures

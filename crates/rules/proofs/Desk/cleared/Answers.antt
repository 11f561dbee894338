-- `Desk::cleared` meets its contract. Assumes nothing.
use Rattle.rules.proofs.Desk.cleared.Goals as goal

pub returns : goal.returns
returns c = rw c.fresh.ensures

-- `views::quorum` meets its contract. Assumes nothing.
use Rattle.views.proofs.quorum.Goals as goal

pub returns : goal.returns
returns c = rw c.members.ensures

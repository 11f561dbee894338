-- `views::reaches` meets its contract. Assumes nothing.
use Rattle.views.specs.View.{reaches_of}
use Rattle.views.proofs.reaches.Goals as goal

pub returns : goal.returns
unfolding reaches_of
returns c = rw (c.quorum.ensures, c.members.ensures)

-- `messages::nothing_sent` meets its contract. Assumes nothing.
use Rattle.state.specs.Plans.{padded}
use Rattle.messages.specs.Made.{all_sent}
use Rattle.messages.proofs.nothing_sent.Goals as goal

pub returns : goal.returns
unfolding all_sent padded
returns c = rw c.no_sending-nobody.ensures

-- `messages::no_sending` meets its contract. Assumes nothing.
use Rattle.messages.proofs.no_sending.Goals as goal

pub returns : goal.returns
returns c = rw c.ack.ensures

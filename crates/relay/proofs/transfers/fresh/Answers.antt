-- `relay::transfers::fresh` meets its contract. Assumes nothing.
use mathlib.Core.List.{[]}
use Rattle.views.proofs.Rows.{held}
use Rattle.rules.specs.Relays.{fresh_transfer}
use Rattle.state.specs.Meaning.{transfer_of}
use Rattle.relay.proofs.transfers.fresh.Goals as goal

pub returns : goal.returns
unfolding transfer_of fresh_transfer
returns c = rw (held c.empty.result [] c.empty.ensures, c.fresh.ensures)

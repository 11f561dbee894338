-- `relay::transfers::moved` meets its contract. Assumes nothing.
use Rattle.views.specs.Choice.{those}
use Rattle.views.proofs.Sets.{inside_self}
use Rattle.rules.specs.State.{with_transfers}
use Rattle.rules.specs.Relays.{moved}
use Rattle.state.specs.Meaning.{transfer_of, relay_of, part_of}
use Rattle.relay.proofs.transfers.moved.Goals as goal

pub returns : goal.returns
unfolding part_of relay_of with_transfers transfer_of moved those
returns c = rw (inside_self c.args.t.new, c.less.ensures, c.join.ensures, c.newer.ensures)

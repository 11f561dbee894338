-- `relay::parts::shows_move` meets its contract. Assumes nothing.
use Rattle.std.proofs.Common.{rules}
use Rattle.rules.specs.Relays.{is_for}
use Rattle.state.specs.Meaning.{transfer_of, relay_of, part_of}
use Rattle.relay.proofs.Laws.{all_shown}
use Rattle.relay.proofs.parts.shows_move.Goals as goal

pub returns : goal.returns
unfolding part_of relay_of transfer_of
returns c = all_shown transfer_of (is_for c.args.o c.args.w) c.args.p.transfer c.is_none_or.result _ c.is_none_or.ensures (λ x h. search rules)

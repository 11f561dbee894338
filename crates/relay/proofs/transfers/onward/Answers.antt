-- `relay::transfers::onward` meets its contract. Assumes nothing.
use mathlib.Core.Path.{◌≡◌}
use lib.ListN.{length}
use borrow.Author.Rules.{rules}
use Rattle.state.specs.Meaning.{transfer_of}
use Rattle.relay.proofs.Laws.{held_beyond}
use Rattle.relay.proofs.transfers.onward.Goals as goal

pub returns : goal.returns
unfolding transfer_of
returns c =
    let full : length c.args.t.sequence.views ≡ 15 = search rules in
    held_beyond _ _ c.args.t.sequence full c.beyond.ensures

-- `messages::sent_before` meets its contract: the first, and as many of the rest as there is room for. Assumes nothing.
use mathlib.Core.Path.{◌≡◌}
use mathlib.Core.List.{List, ◌∷◌, append-nil}
use native.Mathlib.Omega.{arith}
use borrow.Author.Rules.{rules}
use lib.ListN.{length}
use Rattle.state.specs.declared.Sending.{Sending}
use Rattle.state.specs.Plans.{most}
use Rattle.messages.specs.Made.{to_nobody, all_sent}
use Rattle.messages.proofs.Sent.{padded-take}
use Rattle.messages.proofs.sent_before.Goals as goal

pub returns : goal.returns
unfolding all_sent
returns c =
    let rest : List Sending = c.args.rest.of in
    let full : length rest ≡ most = search rules in
    rw (append-nil, c.copy_from_slice.ensures.after, padded-take to_nobody most (c.args.s ∷ rest) (omega arith))

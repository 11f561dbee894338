-- The kinds of messages, and the numbers that a message's row has for them. Assumes nothing.
use Rattle.std.specs.Prelude.{ℕ, eqb, if◌then◌else◌}
use Rattle.layout.specs.Layout.{request_kind, view_kind, proposal_kind, converged_kind, install_kind, state_kind, get_kind, put_kind, view_reply_kind}
use Rattle.layout.specs.Layout.{pair_reply_kind, ack_kind}
use Rattle.layout.specs.declared.MessageKind.{MessageKind}
use Rattle.layout.specs.declared.MessageKind.TheVariants.{Request, View, Proposal, Converged, Install, State, Get, Put, ViewReply, PairReply, Ack}

abbrev pub number_of_kind : MessageKind → ℕ
number_of_kind Request = request_kind
number_of_kind View = view_kind
number_of_kind Proposal = proposal_kind
number_of_kind Converged = converged_kind
number_of_kind Install = install_kind
number_of_kind State = state_kind
number_of_kind Get = get_kind
number_of_kind Put = put_kind
number_of_kind ViewReply = view_reply_kind
number_of_kind PairReply = pair_reply_kind
number_of_kind Ack = ack_kind

-- the kind that a number tells; of 11, and of any number that is no kind, an acknowledgement
unfoldable pub kind_of : ℕ → MessageKind
kind_of n =
    if eqb n request_kind then Request
    else if eqb n view_kind then View
    else if eqb n proposal_kind then Proposal
    else if eqb n converged_kind then Converged
    else if eqb n install_kind then Install
    else if eqb n state_kind then State
    else if eqb n get_kind then Get
    else if eqb n put_kind then Put
    else if eqb n view_reply_kind then ViewReply
    else if eqb n pair_reply_kind then PairReply
    else Ack

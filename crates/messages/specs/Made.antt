-- The bodies and sendings that the builders make, field by field. Assumes nothing.
use Rattle.std.specs.Prelude.{List, [], ℕ, leb, ltb, if◌then◌else◌, ◌&&◌}
use Rattle.views.specs.Row.{row_of}
use Rattle.views.specs.declared.Sequence.{Sequence}
use Rattle.rules.specs.Sets.{only}
use Rattle.rules.specs.Stamps.{zero_pair}
use Rattle.rules.specs.Messages as rules
use Rattle.layout.specs.Layout.{proposal_kind, install_kind}
use Rattle.layout.specs.Image.{body_row}
use Rattle.state.specs.declared.Body.{Body}
use Rattle.state.specs.declared.Sending.{Sending}
use Rattle.state.specs.declared.Sendings.{Sendings}
use Rattle.state.specs.declared.Event.{Event}
use Rattle.state.specs.declared.Plan.{Plan}
use Rattle.state.specs.Plans.{most, padded}

-- of this kind, and it says nothing yet
unfoldable pub blank_of : ℕ → Body
blank_of kind = record { kind = kind; first = 0; second = 0; tries = 0; sequence = row_of []; pair = zero_pair; updates = 0 }

-- this row of views where the body says a sequence (a proposal, a convergence, an install), the empty row where it says none
abbrev pub said_by : rules.Body → Sequence → Sequence
said_by x q = let kind = (body_row 0 0 x).kind in if leb proposal_kind kind && leb kind install_kind then q else row_of []

-- the code's body that says this: every field as in its row of the image, the sequence as it is given
unfoldable pub made_with : Sequence → rules.Body → Body
made_with q x =
    let m = body_row 0 0 x in
    record { kind = m.kind; first = m.first; second = m.second; tries = m.tries; sequence = said_by x q; pair = m.pair; updates = m.updates }

-- one that says no sequence
abbrev pub made : rules.Body → Body
made x = made_with (row_of []) x

abbrev pub send_to : ℕ → Body → Sending
send_to receivers body = record { body = body; receivers = receivers }

-- nothing is sent
abbrev pub to_nobody : Sending
to_nobody = send_to 0 (made (rules.ack 0))

-- these, in their order; the rest of the room is sent to nobody
unfoldable pub all_sent : List Sending → Sendings
all_sent ss = record { of = padded most to_nobody ss }

-- what is so next, these sendings, and this event
unfoldable pub plan_of_all : {T : Type 0} → T → List Sending → Event → Plan T
plan_of_all next ss e = record { next = next; sends = all_sent ss; event = e }

-- a set of receivers has the numbers 0 to 15: of any other, nobody
abbrev pub one_of : ℕ → ℕ
one_of s = if ltb s 16 then only s else 0

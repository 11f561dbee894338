-- What the code's values mean, in the words of the rules. A row of views means the list of its views, so unused entries of a row mean nothing.
-- Assumes nothing.
use Rattle.std.specs.Prelude.{List, [], ◌∷◌, map, ℕ, Option, None, Some}
use Rattle.views.specs.Row.{views_of}
use Rattle.rules.specs.Messages as rules
use Rattle.rules.specs.State.{Relay}
use Rattle.rules.specs.State as rules-state
use Rattle.layout.specs.Image.{Row, row, body_in}
use Rattle.state.specs.declared.Notes.{Notes}
use Rattle.state.specs.declared.Generator.{Generator}
use Rattle.state.specs.declared.Transfer.{Transfer}
use Rattle.state.specs.declared.Head.{Head}
use Rattle.state.specs.declared.Part.{Part}
use Rattle.state.specs.declared.Body.{Body}
use Rattle.state.specs.declared.Message.{Message}
use Rattle.state.specs.declared.Sending.{Sending}
use Rattle.state.specs.declared.Sendings.{Sendings}
use Rattle.state.specs.declared.Event.{Event}
use Rattle.state.specs.declared.Event.TheVariants.{Nothing, Opened, ReadDone, WriteDone}

unfoldable pub notes_of : Notes → List (List ℕ)
notes_of n = map views_of n.of

unfoldable pub generator_of : Generator → rules-state.Generator
generator_of g =
    record {
      view = g.view;
      own = views_of g.own;
      converged = views_of g.converged;
      raised = views_of g.raised;
      proposals = notes_of g.proposals;
      convergences = notes_of g.convergences;
    }

unfoldable pub transfer_of : Transfer → rules-state.Transfer
transfer_of t =
    record {
      old = t.old;
      new = t.new;
      sequence = views_of t.sequence;
      senders = t.senders;
      best = t.best;
      gathered = t.gathered;
    }

-- a relay with this head, these generators and these transfers
unfoldable pub relay_of : Head → List rules-state.Generator → List rules-state.Transfer → Relay
relay_of h gs ts =
    record {
      alive = h.alive;
      view = h.view;
      entered = h.entered;
      active = h.active;
      known = h.known;
      pending = h.pending;
      holds = h.holds;
      generators = gs;
      transfers = ts;
    }

-- what is there, if anything, as a list of what it means
abbrev pub listed : {A B : Type 0} → (A → B) → Option A → List B
listed means None = []
listed means (Some x) = means x ∷ []

-- the relay that a part shows: one with that generator and that transfer, if any, and no others
unfoldable pub part_of : Part → Relay
part_of p = relay_of p.head (listed generator_of p.generator) (listed transfer_of p.transfer)

-- a body from one to another, field by field, as the image has a message's row
abbrev pub addressed_row : ℕ → ℕ → Body → Row
addressed_row s r b = row b.kind s r b.first b.second b.tries (views_of b.sequence) b.pair b.updates

abbrev pub row_of_body : Body → Row
row_of_body b = addressed_row 0 0 b

-- what a body says by its kind (Image); 11 and any number that is no kind: an acknowledgement
unfoldable pub body_of : Body → rules.Body
body_of b = body_in (row_of_body b)

unfoldable pub message_of : Message → rules.Message
message_of m = record { from = m.from; to = m.to; body = body_of m.body }

unfoldable pub sending_of : Sending → rules.Sending
sending_of s = record { body = body_of s.body; receivers = s.receivers }

unfoldable pub sendings_of : Sendings → List rules.Sending
sendings_of x = map sending_of x.of

unfoldable pub event_of : Event → rules.Event
event_of Nothing = rules.nothing
event_of (Opened v) = rules.opened v
event_of (ReadDone p) = rules.read_done p
event_of (WriteDone p) = rules.write_done p

-- What the parts that the code reads and writes are of a relay and of a place. Assumes nothing.
use Rattle.std.specs.Prelude.{if◌then◌else◌, ◌&&◌}
use mathlib.Core.Path.{◌≡◌, refl, sym, ap, ◌∙◌}
use mathlib.Core.List.{List, [], map}
use Prim.Native.Nat.{ℕ, ◌+◌, ◌*◌, ◌≤◌}
use lib.Dec.{leb}
use lib.ListN.{get_or-map, get_or}
use borrow.Author.Tests.{le-leb}
use Rattle.rows.specs.Bytes.{tab}
use Rattle.views.specs.declared.Sequence.{Sequence}
use Rattle.views.specs.Row.{views_of}
use Rattle.rules.specs.Sets.{those}
use Rattle.rules.specs.State.{Generator, Transfer, free, waiting}
use Rattle.rules.specs.Messages as rules
use Rattle.layout.specs.Layout.{generator_width, transfer_width, relay_generators, relay_transfers}
use Rattle.layout.specs.Kinds.{kind_of}
use Rattle.layout.specs.declared.MessageKind.{MessageKind}
use Rattle.layout.specs.declared.MessageKind.TheVariants.{Request, View, Proposal, Converged, Install, State, Get, Put, ViewReply, PairReply, Ack}
use Rattle.layout.specs.Image.{body_row, body_by, body_in, place_in, row_bytes, place_bytes, head_bytes, relay_at, generator_at, transfer_at}
use Rattle.layout.specs.Image.{filled_generator, filled_transfer}
use Rattle.layout.proofs.Rows.{addressed, row_of_lem}
use Rattle.state.specs.declared.Head.{Head}
use Rattle.state.specs.declared.Body.{Body}
use Rattle.state.specs.declared.Message.{Message}
use Rattle.state.specs.Meaning.{addressed_row, row_of_body, relay_of, body_of, message_of}
use Rattle.image.specs.Parts.{head_at, message_row}

-- ---- a relay is its head with its two tables

pub relay_parts : (l : List ℕ) (i : ℕ)
    → relay_at l i
    ≡ relay_of (head_at l i) (those filled_generator (tab 8 (λ k. generator_at l (i + relay_generators + k * generator_width)))) (those filled_transfer (tab 8 (λ k. transfer_at l (i + relay_transfers + k * transfer_width))))
unfolding relay_at relay_of head_at
relay_parts l i = refl

-- a head's bytes are the same whatever the tables hold
pub head_alone : (h : Head) (gs : List Generator) (ts : List Transfer) → head_bytes (relay_of h gs ts) ≡ head_bytes (relay_of h [] [])
unfolding head_bytes relay_of
head_alone h gs ts = refl

-- ---- a note of the code's eight, as it is meant

pub note_at : (qs : List Sequence) (k : ℕ) → views_of (get_or qs k (record { views = []; len = 0 })) ≡ get_or (map views_of qs) k []
unfolding views_of
note_at qs k = sym (get_or-map views_of qs k (record { views = []; len = 0 }))

-- ---- a place is what its row says

-- what a row of any kind says does not go by its ends
ends_aside : (s r : ℕ) (b : Body) (k : MessageKind) → body_by k (addressed_row s r b) ≡ body_by k (row_of_body b)
ends_aside s r b Request = refl
ends_aside s r b View = refl
ends_aside s r b Proposal = refl
ends_aside s r b Converged = refl
ends_aside s r b Install = refl
ends_aside s r b State = refl
ends_aside s r b Get = refl
ends_aside s r b Put = refl
ends_aside s r b ViewReply = refl
ends_aside s r b PairReply = refl
ends_aside s r b Ack = refl

module _ (m : Message) where
  pub place_is : place_in (message_row m) ≡ (if leb 1 m.body.kind && leb m.body.kind 11 then waiting (message_of m) else free)
  unfolding place_in body_in message_row message_of body_of
  place_is = rw (ends_aside m.from m.to m.body (kind_of m.body.kind))

  pub place_of : 1 ≤ m.body.kind → m.body.kind ≤ 11 → place_in (message_row m) ≡ waiting (message_of m)
  place_of low high = place_is ∙ rw (le-leb 1 m.body.kind low, le-leb m.body.kind 11 high)

-- ---- a message whose body has the row of what is said has the bytes of the place where that waits

pub said_bytes : (m : Message) (x : rules.Body) → row_of_body m.body ≡ body_row 0 0 x
    → row_bytes (message_row m) ≡ place_bytes (waiting (record { from = m.from; to = m.to; body = x }))
unfolding place_bytes message_row addressed
said_bytes m x e = ap row_bytes (ap (addressed m.from m.to) e ∙ sym (row_of_lem m.from m.to x).ends)

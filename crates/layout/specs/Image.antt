-- A state in bytes, and what bytes mean: "One state has one image: unused room is zero." Where a field stands is Layout. Assumes nothing.
use Rattle.std.specs.Prelude.{Bool, not, List, [], ◌∷◌, ◌++◌, ℕ, ◌+◌, ◌*◌, eqb, leb, length, get_or, take, if◌then◌else◌, ◌&&◌}
use Rattle.rows.specs.Bytes.{be16, be32, u16_at, u32_at, run, tab, cat, table, zeros}
use Rattle.rules.specs.Sets.{same, those, view_count, relay_count, desk_count, place_count, seat_count}
use Rattle.rules.specs.Stamps.{Pair, zero_pair}
use Rattle.rules.specs.Messages.{Body, request, view, proposal, converged, install, state, get, put, view_reply, pair_reply, ack}
use Rattle.rules.specs.State.{Generator, Transfer, Relay, no_relay, no_desk, Place, free, waiting, World}
use Rattle.rules.specs.declared.Desk.{Desk}
use Rattle.rules.specs.declared.Phase.{Phase}
use Rattle.rules.specs.declared.Phase.TheVariants.{Idle, Read1, Read2, Write1, Write2}
use Rattle.rules.specs.Generators.{fresh}
use Rattle.rules.specs.Relays.{fresh_transfer}
use Rattle.rules.specs.WellFormed.{well_formed}
use Rattle.layout.specs.Layout.{u16_width, sequence_count, sequence_width, pair_desk, pair_value, head_entered, head_active, head_view, head_known, head_pending}
use Rattle.layout.specs.Layout.{head_holds, head_rest, generator_own, generator_converged, generator_raised, generator_proposals, generator_convergences}
use Rattle.layout.specs.Layout.{generator_width, generator_rest, transfer_new, transfer_sequence, transfer_senders, transfer_best, transfer_gathered}
use Rattle.layout.specs.Layout.{transfer_width, transfer_rest, relay_generators, relay_transfers, desk_phase, desk_view, desk_tries, desk_holds, desk_replied}
use Rattle.layout.specs.Layout.{desk_best, desk_agreed, desk_rest, message_from, message_to, message_first, message_second, message_tries, message_sequence}
use Rattle.layout.specs.Layout.{message_pair, message_updates, message_rest, no_kind, request_kind, view_kind, proposal_kind, converged_kind, install_kind}
use Rattle.layout.specs.Layout.{state_kind, get_kind, put_kind, view_reply_kind, pair_reply_kind, ack_kind, world_width, world_rest, relay_begin, desk_begin}
use Rattle.layout.specs.Layout.{place_begin}
use Rattle.layout.specs.Kinds.{kind_of}
use Rattle.layout.specs.declared.MessageKind.{MessageKind}
use Rattle.layout.specs.declared.MessageKind.TheVariants.{Request, View, Proposal, Converged, Install, State, Get, Put, ViewReply, PairReply, Ack}

-- ---- a state in bytes

abbrev pub flag : Bool → List ℕ
flag b = (if b then 1 else 0) ∷ []

abbrev pub byte : ℕ → List ℕ
byte x = x ∷ []

unfoldable pub sequence_bytes : List ℕ → List ℕ
sequence_bytes q = run view_count (λ k. be16 (get_or q k 0)) ++ byte (length q)

abbrev pub pair_fields : Pair → List (List ℕ)
pair_fields p = be16 p.stamp.count ∷ byte p.stamp.desk ∷ be32 p.value ∷ []

unfoldable pub pair_bytes : Pair → List ℕ
pair_bytes p = cat (pair_fields p)

abbrev pub head_fields : Relay → List (List ℕ)
head_fields r =
    flag r.alive ∷ flag r.entered ∷ flag r.active
    ∷ be16 r.view ∷ be16 r.known ∷ be16 r.pending
    ∷ pair_bytes r.holds
    ∷ zeros head_rest
    ∷ []

unfoldable pub head_bytes : Relay → List ℕ
head_bytes r = cat (head_fields r)

abbrev pub generator_fields : Generator → List (List ℕ)
generator_fields g =
    be16 g.view
    ∷ sequence_bytes g.own ∷ sequence_bytes g.converged ∷ sequence_bytes g.raised
    ∷ table sequence_bytes [] relay_count g.proposals ∷ table sequence_bytes [] relay_count g.convergences
    ∷ zeros generator_rest
    ∷ []

unfoldable pub generator_bytes : Generator → List ℕ
generator_bytes g = cat (generator_fields g)

abbrev pub transfer_fields : Transfer → List (List ℕ)
transfer_fields t =
    be16 t.old ∷ be16 t.new
    ∷ sequence_bytes t.sequence
    ∷ byte t.senders
    ∷ pair_bytes t.best
    ∷ be16 t.gathered
    ∷ zeros transfer_rest
    ∷ []

unfoldable pub transfer_bytes : Transfer → List ℕ
transfer_bytes t = cat (transfer_fields t)

abbrev pub relay_fields : Relay → List (List ℕ)
relay_fields r =
    head_bytes r
    ∷ table generator_bytes (fresh 0) seat_count r.generators
    ∷ table transfer_bytes (fresh_transfer 0 0) seat_count r.transfers
    ∷ []

unfoldable pub relay_bytes : Relay → List ℕ
relay_bytes r = cat (relay_fields r)

abbrev pub phase_number : Phase → ℕ
phase_number Idle = 0
phase_number Read1 = 1
phase_number Read2 = 2
phase_number Write1 = 3
phase_number Write2 = 4

abbrev pub desk_fields : Desk → List (List ℕ)
desk_fields d =
    flag d.alive
    ∷ byte (phase_number d.phase)
    ∷ be16 d.view ∷ be16 d.tries
    ∷ pair_bytes d.holds
    ∷ byte d.replied
    ∷ pair_bytes d.best
    ∷ flag d.agreed
    ∷ zeros desk_rest
    ∷ []

unfoldable pub desk_bytes : Desk → List ℕ
desk_bytes d = cat (desk_fields d)

-- a message with a field for everything that some kind says; what its own kind does not say is zero in a message's row (`body_row`)
pub record Row : Type 0 where
  pub kind : ℕ
  pub from : ℕ
  pub to : ℕ
  pub first : ℕ
  pub second : ℕ
  pub tries : ℕ
  pub sequence : List ℕ
  pub pair : Pair
  pub updates : ℕ

abbrev pub row : ℕ → ℕ → ℕ → ℕ → ℕ → ℕ → List ℕ → Pair → ℕ → Row
row kind from to first second tries q p u =
    record { kind = kind; from = from; to = to; first = first; second = second; tries = tries; sequence = q; pair = p; updates = u }

abbrev pub body_row : ℕ → ℕ → Body → Row
body_row s r (request u c) = row request_kind s r c 0 0 [] zero_pair u
body_row s r (view v) = row view_kind s r v 0 0 [] zero_pair 0
body_row s r (proposal v q) = row proposal_kind s r v 0 0 q zero_pair 0
body_row s r (converged v q) = row converged_kind s r v 0 0 q zero_pair 0
body_row s r (install o w q) = row install_kind s r o w 0 q zero_pair 0
body_row s r (state o w p u) = row state_kind s r o w 0 [] p u
body_row s r (get try c) = row get_kind s r c 0 try [] zero_pair 0
body_row s r (put try c p) = row put_kind s r c 0 try [] p 0
body_row s r (view_reply try v) = row view_reply_kind s r v 0 try [] zero_pair 0
body_row s r (pair_reply try p) = row pair_reply_kind s r 0 0 try [] p 0
body_row s r (ack try) = row ack_kind s r 0 0 try [] zero_pair 0

abbrev pub place_row : Place → Row
place_row free = row no_kind 0 0 0 0 0 [] zero_pair 0
place_row (waiting m) = body_row m.from m.to m.body

abbrev pub row_fields : Row → List (List ℕ)
row_fields m =
    byte m.kind ∷ byte m.from ∷ byte m.to
    ∷ be16 m.first ∷ be16 m.second ∷ be16 m.tries
    ∷ sequence_bytes m.sequence
    ∷ pair_bytes m.pair
    ∷ be16 m.updates
    ∷ zeros message_rest
    ∷ []

unfoldable pub row_bytes : Row → List ℕ
row_bytes m = cat (row_fields m)

unfoldable pub place_bytes : Place → List ℕ
place_bytes p = row_bytes (place_row p)

abbrev pub world_tables : World → List (List ℕ)
world_tables w =
    table relay_bytes no_relay relay_count w.relays
    ∷ table desk_bytes no_desk desk_count w.desks
    ∷ table place_bytes free place_count w.places
    ∷ zeros world_rest
    ∷ []

unfoldable pub image : World → List ℕ
image w = cat (world_tables w)

-- ---- what bytes mean, whatever they are: read from index i on, where the first field stands

abbrev pub flag_at : List ℕ → ℕ → Bool
flag_at b i = eqb (get_or b i 0) 1

unfoldable pub sequence_at : List ℕ → ℕ → List ℕ
sequence_at b i = take (get_or b (i + sequence_count) 0) (tab view_count (λ k. u16_at b (i + u16_width * k)))

unfoldable pub pair_at : List ℕ → ℕ → Pair
pair_at b i = record { stamp = record { count = u16_at b i; desk = get_or b (i + pair_desk) 0 }; value = u32_at b (i + pair_value) }

unfoldable pub generator_at : List ℕ → ℕ → Generator
generator_at b i =
    record {
      view = u16_at b i;
      own = sequence_at b (i + generator_own);
      converged = sequence_at b (i + generator_converged);
      raised = sequence_at b (i + generator_raised);
      proposals = tab relay_count (λ k. sequence_at b (i + generator_proposals + k * sequence_width));
      convergences = tab relay_count (λ k. sequence_at b (i + generator_convergences + k * sequence_width));
    }

unfoldable pub transfer_at : List ℕ → ℕ → Transfer
transfer_at b i =
    record {
      old = u16_at b i;
      new = u16_at b (i + transfer_new);
      sequence = sequence_at b (i + transfer_sequence);
      senders = get_or b (i + transfer_senders) 0;
      best = pair_at b (i + transfer_best);
      gathered = u16_at b (i + transfer_gathered);
    }

-- a place is filled where its view, or its new view, is not 0
abbrev pub filled_generator : Generator → Bool
filled_generator g = not (eqb g.view 0)

abbrev pub filled_transfer : Transfer → Bool
filled_transfer t = not (eqb t.new 0)

unfoldable pub relay_at : List ℕ → ℕ → Relay
relay_at b i =
    record {
      alive = flag_at b i;
      view = u16_at b (i + head_view);
      entered = flag_at b (i + head_entered);
      active = flag_at b (i + head_active);
      known = u16_at b (i + head_known);
      pending = u16_at b (i + head_pending);
      holds = pair_at b (i + head_holds);
      generators = those filled_generator (tab seat_count (λ k. generator_at b (i + relay_generators + k * generator_width)));
      transfers = those filled_transfer (tab seat_count (λ k. transfer_at b (i + relay_transfers + k * transfer_width)));
    }

abbrev pub phase_of : ℕ → Phase
phase_of n = if eqb n 1 then Read1 else if eqb n 2 then Read2 else if eqb n 3 then Write1 else if eqb n 4 then Write2 else Idle

unfoldable pub desk_at : List ℕ → ℕ → Desk
desk_at b i =
    record {
      alive = flag_at b i;
      view = u16_at b (i + desk_view);
      phase = phase_of (get_or b (i + desk_phase) 0);
      tries = u16_at b (i + desk_tries);
      holds = pair_at b (i + desk_holds);
      replied = get_or b (i + desk_replied) 0;
      best = pair_at b (i + desk_best);
      agreed = flag_at b (i + desk_agreed);
    }

unfoldable pub row_at : List ℕ → ℕ → Row
row_at b i =
    row (get_or b i 0) (get_or b (i + message_from) 0) (get_or b (i + message_to) 0)
    (u16_at b (i + message_first)) (u16_at b (i + message_second)) (u16_at b (i + message_tries))
    (sequence_at b (i + message_sequence)) (pair_at b (i + message_pair)) (u16_at b (i + message_updates))

-- what a row says that is of this kind
abbrev pub body_by : MessageKind → Row → Body
body_by Request m = request m.updates m.first
body_by View m = view m.first
body_by Proposal m = proposal m.first m.sequence
body_by Converged m = converged m.first m.sequence
body_by Install m = install m.first m.second m.sequence
body_by State m = state m.first m.second m.pair m.updates
body_by Get m = get m.tries m.first
body_by Put m = put m.tries m.first m.pair
body_by ViewReply m = view_reply m.tries m.first
body_by PairReply m = pair_reply m.tries m.pair
body_by Ack m = ack m.tries

-- what a row of any kind says
unfoldable pub body_in : Row → Body
body_in m = body_by (kind_of m.kind) m

unfoldable pub place_in : Row → Place
place_in m =
    if leb request_kind m.kind && leb m.kind ack_kind
    then waiting (record { from = m.from; to = m.to; body = body_in m })
    else free

unfoldable pub world_at : List ℕ → World
world_at b =
    record {
      relays = tab relay_count (λ k. relay_at b (relay_begin k));
      desks = tab desk_count (λ k. desk_at b (desk_begin k));
      places = tab place_count (λ k. place_in (row_at b (place_begin k)));
    }

-- ---- "A world is good exactly when its length is right, every field is in range, [..] and the rest is zero."
-- The bytes are the image of a well-formed world: of the one that they mean.

unfoldable pub good_bytes : List ℕ → Bool
good_bytes b = eqb (length b) world_width && (well_formed (world_at b) && same (image (world_at b)) b)

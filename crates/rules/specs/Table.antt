-- The table of answers, rows 2 to 8, over a world and a step, each row with document 01's own condition. That the rules answer by it is proofs/Order.
-- Assumes nothing.
use Rattle.std.specs.Prelude.{Bool, true, false, not, List, [], ◌∷◌, ℕ, ◌+◌, ◌-◌, eqb, leb, ltb, length, get_or, if◌then◌else◌, ◌&&◌, ◌||◌}
use Rattle.rules.specs.Sets.{within, member, reaches, inside, joins, none, all, relay_count, desk_count, everyone, place_count, seat_count}
use Rattle.rules.specs.Stamps.{is_value, is_no_value}
use Rattle.rules.specs.Messages.{Body, request, view, proposal, converged, install, state, get, put, view_reply, pair_reply, ack, Message, outgoing, bad_step, empty, dead, not_now, not_yet, worn, no_room, number, Answer, refused, does}
use Rattle.rules.specs.State.{Desk, Phase, Idle, Read1, Read2, Write1, Write2, Transfer, Relay, Place, free, waiting, World, relay_at, desk_at, place_at}
use Rattle.rules.specs.Sending.{free_in}
use Rattle.rules.specs.Generators.{one_if}
use Rattle.rules.specs.Relays.{join_asked, leave_asked, timer_rang, is_for, transfer_for, keeps, gathers, passes, onward, relay_hears}
use Rattle.rules.specs.Desks.{is_idle, is_first, is_second, full, notes_pair, notes_ack, read_asked, write_asked, current, desk_hears}
use Rattle.rules.specs.Steps.{Step, WRITE, told, Act, join, leave, timer, read, write, deliver, drop, crash, bad, alive_in, freed}

-- the number of the first row that applies; 0, done, where none does
abbrev pub first_of : List (Bool × ℕ) → ℕ
first_of [] = 0
first_of (r ∷ rs) = if r.0 then r.1 else first_of rs

-- how many ids a kind of step has: JOIN, LEAVE, TIMER relays; READ, WRITE desks; DELIVER, DROP places; CRASH relays and desks; what is no kind has none
abbrev pub ids_of : ℕ → ℕ
ids_of kind = get_or (0 ∷ relay_count ∷ relay_count ∷ relay_count ∷ desk_count ∷ desk_count ∷ place_count ∷ place_count ∷ everyone ∷ []) kind 0

-- "kind, id or value out of range"; "A value other than 0 belongs to WRITE only."
abbrev pub out_of_range : Step → Bool
out_of_range k = not (ltb k.id (ids_of k.kind) && (if eqb k.kind WRITE then is_value k.value else is_no_value k.value))

-- "DELIVER or DROP of a free place"
abbrev pub is_free : Place → Bool
is_free free = true
is_free (waiting m) = false

abbrev pub empty_place : World → Act → Bool
empty_place w (join s) = false
empty_place w (leave s) = false
empty_place w (timer s) = false
empty_place w (read n) = false
empty_place w (write n x) = false
empty_place w (deliver p) = is_free (place_at w p)
empty_place w (drop p) = is_free (place_at w p)
empty_place w (crash who) = false
empty_place w bad = false

-- "actor, receiver of a DELIVER, or CRASH target crashed"
abbrev pub is_dead : World → ℕ → Bool
is_dead w who = not (alive_in w who)

abbrev pub receiver_dead : World → Place → Bool
receiver_dead w free = false
receiver_dead w (waiting m) = is_dead w m.to

abbrev pub dead_one : World → Act → Bool
dead_one w (join s) = is_dead w s
dead_one w (leave s) = is_dead w s
dead_one w (timer s) = is_dead w s
dead_one w (read n) = is_dead w (relay_count + n)
dead_one w (write n x) = is_dead w (relay_count + n)
dead_one w (deliver p) = receiver_dead w (place_at w p)
dead_one w (drop p) = false
dead_one w (crash who) = is_dead w who
dead_one w bad = false

-- "JOIN is NOT NOW if the relay has entered any view or its join is in its known view", "LEAVE is NOT NOW unless it is a member of its view", "TIMER is NOT NOW unless active and its view
-- lacks a pending update", "READ and WRITE are NOT NOW unless the desk is idle"
abbrev pub is_not_now : World → Act → Bool
is_not_now w (join s) = (relay_at w s).entered || within (joins s) (relay_at w s).known
is_not_now w (leave s) = not (member (relay_at w s).view s)
is_not_now w (timer s) = not ((relay_at w s).active && not (within (relay_at w s).pending (relay_at w s).view))
is_not_now w (read n) = not (is_idle (desk_at w n).phase)
is_not_now w (write n x) = not (is_idle (desk_at w n).phase)
is_not_now w (deliver p) = false
is_not_now w (drop p) = false
is_not_now w (crash who) = false
is_not_now w bad = false

-- an install: "NOT YET exactly if the receiver is a member of o and its own view neither equals nor includes o"; Get and Put: "NOT YET unless active and c equals the own view or is inside it"
abbrev pub must_wait : ℕ → Relay → Body → Bool
must_wait s r (install o w q) = member o s && not (eqb r.view o || inside o r.view)
must_wait s r (get try c) = not (r.active && (eqb c r.view || inside c r.view))
must_wait s r (put try c p) = not (r.active && (eqb c r.view || inside c r.view))
must_wait s r (request u c) = false
must_wait s r (view v) = false
must_wait s r (proposal v q) = false
must_wait s r (converged v q) = false
must_wait s r (state o w p u) = false
must_wait s r (view_reply try v) = false
must_wait s r (pair_reply try p) = false
must_wait s r (ack try) = false

abbrev pub message_waits : World → Place → Bool
message_waits w free = false
message_waits w (waiting m) = ltb m.to relay_count && must_wait m.to (relay_at w m.to) m.body

abbrev pub is_not_yet : World → Act → Bool
is_not_yet w (join s) = false
is_not_yet w (leave s) = false
is_not_yet w (timer s) = false
is_not_yet w (read n) = false
is_not_yet w (write n x) = false
is_not_yet w (deliver p) = message_waits w (place_at w p)
is_not_yet w (drop p) = false
is_not_yet w (crash who) = false
is_not_yet w bad = false

-- "a try or stamp count would pass 65,535": what the end of this phase starts would
abbrev pub phase_wears : Desk → Phase → Bool
phase_wears d Idle = false
phase_wears d Read1 = not d.agreed && full d.tries
phase_wears d Read2 = false
phase_wears d Write1 = full d.best.stamp.count || full d.tries
phase_wears d Write2 = false

-- "At a quorum of replies"
abbrev pub quorum_wears : Desk → Bool
quorum_wears d = reaches d.view d.replied && phase_wears d d.phase

abbrev pub reply_wears : Desk → ℕ → Body → Bool
reply_wears d from (view_reply try v) = (current d from try && inside d.view v) && full d.tries
reply_wears d from (pair_reply try p) = (current d from try && is_first d.phase) && quorum_wears (notes_pair d from p)
reply_wears d from (ack try) = (current d from try && is_second d.phase) && quorum_wears (notes_ack d from)
reply_wears d from (request u c) = false
reply_wears d from (view v) = false
reply_wears d from (proposal v q) = false
reply_wears d from (converged v q) = false
reply_wears d from (install o w q) = false
reply_wears d from (state o w p u) = false
reply_wears d from (get try c) = false
reply_wears d from (put try c p) = false

abbrev pub message_wears : World → Place → Bool
message_wears w free = false
message_wears w (waiting m) = not (ltb m.to relay_count) && reply_wears (desk_at w (m.to - relay_count)) m.from m.body

abbrev pub worn_out : World → Act → Bool
worn_out w (join s) = false
worn_out w (leave s) = false
worn_out w (timer s) = false
worn_out w (read n) = full (desk_at w n).tries
worn_out w (write n x) = full (desk_at w n).tries
worn_out w (deliver p) = message_wears w (place_at w p)
worn_out w (drop p) = false
worn_out w (crash who) = false
worn_out w bad = false

-- ---- NO ROOM: "the step needs more messages, generators or transfers than are free at its begin, its own delivered place counted as free"

-- "A generator or transfer that a rule notes into, proposes with or keeps an install in is taken if absent, and at no other time."
abbrev pub lacks_generator : Relay → ℕ → Bool
lacks_generator r v = all (λ g. not (eqb g.view v)) r.generators

abbrev pub lacks_transfer : Relay → ℕ → ℕ → Bool
lacks_transfer r o w = all (λ t. not (is_for o w t)) r.transfers

-- the entry test with this transfer makes the relay propose: it passes, and its sequence has views above the new one
abbrev pub proposes_on : Transfer → Bool
proposes_on t = passes t && not (none (onward t))

-- "If its view is inside w and it is a member of w, the transfer keeps q"
abbrev pub keeps_in : ℕ → Relay → ℕ → Bool
keeps_in s r w = inside r.view w && member w s

-- the message takes a generator: it is noted into one, or leads to a proposal with one, that is absent
abbrev pub takes_generator : ℕ → Relay → ℕ → Body → Bool
takes_generator s r from (proposal v q) = lacks_generator r v
takes_generator s r from (converged v q) = lacks_generator r v
takes_generator s r from (install o w q) = keeps_in s r w && (proposes_on (keeps (transfer_for o w r.transfers) q) && lacks_generator r w)
takes_generator s r from (state o w p u) = inside r.view w && (proposes_on (gathers (transfer_for o w r.transfers) from p u) && lacks_generator r w)
takes_generator s r from (request u c) = false
takes_generator s r from (view v) = false
takes_generator s r from (get try c) = false
takes_generator s r from (put try c p) = false
takes_generator s r from (view_reply try v) = false
takes_generator s r from (pair_reply try p) = false
takes_generator s r from (ack try) = false

-- it takes a transfer: an install is kept in one, or state noted into one, that is absent
abbrev pub takes_transfer : ℕ → Relay → Body → Bool
takes_transfer s r (install o w q) = keeps_in s r w && lacks_transfer r o w
takes_transfer s r (state o w p u) = inside r.view w && lacks_transfer r o w
takes_transfer s r (request u c) = false
takes_transfer s r (view v) = false
takes_transfer s r (proposal v q) = false
takes_transfer s r (converged v q) = false
takes_transfer s r (get try c) = false
takes_transfer s r (put try c p) = false
takes_transfer s r (view_reply try v) = false
takes_transfer s r (pair_reply try p) = false
takes_transfer s r (ack try) = false

-- the rule that the step comes to: the world at its begin, who answers, whether a generator and a transfer are taken, and what is answered
pub data Ruling : Type 0 where
  relayed : World → (s : ℕ) → (generator transfer : Bool) → Answer Relay → Ruling
  desked : World → (n : ℕ) → Answer Desk → Ruling
  -- DROP and CRASH come to none
  unruled : Ruling

-- "its own delivered place counted as free": f is the world with that place free
abbrev pub heard_by : World → Message → Ruling
heard_by f m =
    if ltb m.to relay_count
    then relayed f m.to (takes_generator m.to (relay_at f m.to) m.from m.body) (takes_transfer m.to (relay_at f m.to) m.body)
    (relay_hears m.to (relay_at f m.to) m.from m.body)
    else desked f (m.to - relay_count) (desk_hears (m.to - relay_count) (desk_at f (m.to - relay_count)) m.from m.body)

abbrev pub delivered : World → ℕ → Place → Ruling
delivered w p free = unruled
delivered w p (waiting m) = heard_by (freed w p) m

-- TIMER proposes with the generator of the relay's view
abbrev pub ruling : World → Act → Ruling
ruling w (join s) = relayed w s false false (join_asked s (relay_at w s))
ruling w (leave s) = relayed w s false false (leave_asked s (relay_at w s))
ruling w (timer s) = relayed w s (lacks_generator (relay_at w s) (relay_at w s).view) false (timer_rang (relay_at w s))
ruling w (read n) = desked w n (read_asked (desk_at w n))
ruling w (write n x) = desked w n (write_asked (desk_at w n) x)
ruling w (deliver p) = delivered w p (place_at w p)
ruling w (drop p) = unruled
ruling w (crash who) = unruled
ruling w bad = unruled

-- as many as the step needs are free at its begin: of the 256 places, and of the relay's "up to 8 generators; up to 8 transfers"
abbrev pub places_for : World → ℕ → Bool
places_for f n = leb n (free_in f.places)

abbrev pub generators_for : Relay → Bool → Bool
generators_for r taken = leb (one_if taken) (seat_count - length r.generators)

abbrev pub transfers_for : Relay → Bool → Bool
transfers_for r taken = leb (one_if taken) (seat_count - length r.transfers)

abbrev pub relay_room : World → ℕ → Bool → Bool → Answer Relay → Bool
relay_room f s g t (refused x) = true
relay_room f s g t (does r ss e) = places_for f (length (outgoing s ss)) && (generators_for (relay_at f s) g && transfers_for (relay_at f s) t)

abbrev pub desk_room : World → ℕ → Answer Desk → Bool
desk_room f d (refused x) = true
desk_room f d (does next ss e) = places_for f (length (outgoing (relay_count + d) ss))

abbrev pub room : Ruling → Bool
room (relayed f s g t a) = relay_room f s g t a
room (desked f d a) = desk_room f d a
room unruled = true

-- rows 3 to 8, of a step in range
abbrev pub further : World → Act → List (Bool × ℕ)
further w a =
    (empty_place w a, number empty)
    ∷ (dead_one w a, number dead)
    ∷ (is_not_now w a, number not_now)
    ∷ (is_not_yet w a, number not_yet)
    ∷ (worn_out w a, number worn)
    ∷ (not (room (ruling w a)), number no_room)
    ∷ []

abbrev pub table : World → Step → List (Bool × ℕ)
table w k = (out_of_range k, number bad_step) ∷ further w (told k)

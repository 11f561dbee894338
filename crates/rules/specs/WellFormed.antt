-- When a world is good, as one test: the conditions of "The world", part by part, over clean values. (That its length is right and unused room is zero
-- is said where a world is read from bytes.) Assumes nothing.
use Rattle.std.specs.Prelude.{Bool, true, false, not, List, [], ◌∷◌, ℕ, suc, eqb, leb, ltb, length, ◌&&◌, ◌||◌}
use Rattle.rules.specs.Sets.{joins, leaves, member, members, within, inside, above, lacks, least, none, all, all_hold}
use Rattle.rules.specs.Stamps.{Stamp, Pair, is_value, is_no_value}
use Rattle.rules.specs.Messages.{Body, request, view, proposal, converged, install, state, get, put, view_reply, pair_reply, ack, Message}
use Rattle.rules.specs.State.{Generator, Transfer, Relay, Phase, Idle, Read1, Read2, Write1, Write2, Desk, Place, free, waiting, World}
use Rattle.rules.specs.Relays.{is_for}

-- ---- "every field is in range"

abbrev pub is_view : ℕ → Bool
is_view v = ltb v 65536

abbrev pub is_stamp : Stamp → Bool
is_stamp s = ltb s.count 65536 && ltb s.desk 4

unfoldable pub is_pair : Pair → Bool
is_pair p = is_stamp p.stamp && is_value p.value

abbrev pub is_zero_pair : Pair → Bool
is_zero_pair p = (eqb p.stamp.count 0 && eqb p.stamp.desk 0) && is_no_value p.value

abbrev pub implies : Bool → Bool → Bool
implies a b = not a || b

abbrev pub same_bool : Bool → Bool → Bool
same_bool true b = b
same_bool false b = not b

-- each passes the test, which is told its number from n on
unfoldable pub all_from : {A : Type 0} → ℕ → (ℕ → A → Bool) → List A → Bool
all_from n f [] = true
all_from n f (x ∷ xs) = f n x && all_from (suc n) f xs

-- none stands twice: each differs from all after it
unfoldable pub distinct : {A : Type 0} → (A → A → Bool) → List A → Bool
distinct differ [] = true
distinct differ (x ∷ xs) = all (differ x) xs && distinct differ xs

abbrev pub is_desk : ℕ → Bool
is_desk who = leb 8 who && ltb who 12

-- ---- generators: "sequences are as defined above", "the converged sequence is contained in the own one", "a generator's relay is a member of its view",
-- "notes come from members only"

abbrev pub good_note : ℕ → ℕ → List ℕ → Bool
good_note v s q = above v q && (none q || member v s)

abbrev pub good_notes : ℕ → List (List ℕ) → Bool
good_notes v notes = eqb (length notes) 8 && all_from 0 (good_note v) notes

unfoldable pub good_generator : ℕ → Generator → Bool
good_generator s g =
    all_hold (
    is_view g.view
    ∷ member g.view s
    ∷ above g.view g.own
    ∷ above g.view g.converged
    ∷ above g.view g.raised
    ∷ not (lacks g.converged g.own)
    ∷ good_notes g.view g.proposals
    ∷ good_notes g.view g.convergences
    ∷ [])

-- ---- transfers: a sequence, "an install's or a filled transfer's has its new view as least"; the relay is a member, "a transfer's of its new view";
-- "old views have members and are inside new ones"

-- an old view and a new one
unfoldable pub good_move : ℕ → ℕ → Bool
good_move o w = all_hold (is_view w ∷ not (eqb (members o) 0) ∷ inside o w ∷ [])

-- an install's sequence
unfoldable pub good_installed : ℕ → ℕ → List ℕ → Bool
good_installed o w q = all_hold (not (none q) ∷ above o q ∷ eqb (least q) w ∷ [])

unfoldable pub good_transfer : ℕ → Transfer → Bool
good_transfer s t =
    all_hold (
    member t.new s
    ∷ good_move t.old t.new
    ∷ (none t.sequence || good_installed t.old t.new t.sequence)
    ∷ within t.senders (members t.old)
    ∷ is_pair t.best
    ∷ is_view t.gathered
    ∷ [])

-- ---- relays: "active implies entered and member, a relay has view 0 exactly when it hasn't entered",
-- "generator and transfer places name different views or pairs and are filled from the lowest"

abbrev pub other_view : Generator → Generator → Bool
other_view g h = not (eqb g.view h.view)

abbrev pub other_move : Transfer → Transfer → Bool
other_move t u = not (is_for u.old u.new t)

unfoldable pub good_generators : ℕ → List Generator → Bool
good_generators s gs = all_hold (leb (length gs) 8 ∷ all (good_generator s) gs ∷ distinct other_view gs ∷ [])

unfoldable pub good_transfers : ℕ → List Transfer → Bool
good_transfers s ts = all_hold (leb (length ts) 8 ∷ all (good_transfer s) ts ∷ distinct other_move ts ∷ [])

unfoldable pub good_relay : ℕ → Relay → Bool
good_relay s r =
    all_hold (
    is_view r.view
    ∷ is_view r.known
    ∷ is_view r.pending
    ∷ is_pair r.holds
    ∷ implies r.active (r.entered && member r.view s)
    ∷ same_bool r.entered (not (eqb r.view 0))
    ∷ good_generators s r.generators
    ∷ good_transfers s r.transfers
    ∷ [])

-- ---- desks: "Fields not set since the start or the clearing are zero; an acknowledgement sets only who replied. Idle, only alive, view and try stay."

-- phase 1 has a best reply and whether all agreed, once somebody replied
abbrev pub good_best : Desk → Bool
good_best d = is_pair d.best && implies (eqb d.replied 0) (is_zero_pair d.best && not d.agreed)

abbrev pub no_best : Desk → Bool
no_best d = is_zero_pair d.best && not d.agreed

unfoldable pub good_phase : Phase → Desk → Bool
good_phase Idle d = all_hold (is_zero_pair d.holds ∷ eqb d.replied 0 ∷ no_best d ∷ [])
good_phase Read1 d = all_hold (is_zero_pair d.holds ∷ good_best d ∷ [])
good_phase Read2 d = all_hold (is_pair d.holds ∷ no_best d ∷ [])
good_phase Write1 d = all_hold (is_pair d.holds ∷ eqb d.holds.stamp.count 0 ∷ eqb d.holds.stamp.desk 0 ∷ good_best d ∷ [])
good_phase Write2 d = all_hold (is_pair d.holds ∷ no_best d ∷ [])

unfoldable pub good_desk : Desk → Bool
good_desk d =
    all_hold (
    is_view d.view
    ∷ ltb d.tries 65536
    ∷ within d.replied (members d.view)
    ∷ good_phase d.phase d
    ∷ [])

-- ---- messages: of sequences, "no message's is empty"; "each message's sender and receiver are ones that its rule could name"

-- from a member of v to a member of w
abbrev pub between : ℕ → ℕ → Message → Bool
between v w m = member v m.from && member w m.to

-- from a desk to a member of the view asked for; from a relay to a desk
abbrev pub asked : ℕ → Message → Bool
asked c m = is_desk m.from && member c m.to

abbrev pub replied : Message → Bool
replied m = ltb m.from 8 && is_desk m.to

-- +s is not in c, or s is a member of c and asks for -s
abbrev pub good_request : ℕ → ℕ → ℕ → Bool
good_request s u c = eqb u (joins s) && not (within u c) || eqb u (leaves s) && member c s

unfoldable pub good_body : Message → Body → Bool
good_body m (request u c) = all_hold (ltb m.from 8 ∷ is_view c ∷ good_request m.from u c ∷ member c m.to ∷ [])
good_body m (view v) = all_hold (ltb m.from 8 ∷ ltb m.to 8 ∷ is_view v ∷ not (eqb v 0) ∷ [])
good_body m (proposal v q) = all_hold (is_view v ∷ between v v m ∷ above v q ∷ not (none q) ∷ [])
good_body m (converged v q) = all_hold (is_view v ∷ between v v m ∷ above v q ∷ not (none q) ∷ [])
good_body m (install o w q) = all_hold (good_move o w ∷ good_installed o w q ∷ (between o o m || between o w m) ∷ [])
good_body m (state o w p updates) = all_hold (good_move o w ∷ between o w m ∷ is_pair p ∷ is_view updates ∷ [])
good_body m (get try c) = all_hold (ltb try 65536 ∷ is_view c ∷ asked c m ∷ [])
good_body m (put try c p) = all_hold (ltb try 65536 ∷ is_view c ∷ asked c m ∷ is_pair p ∷ [])
good_body m (view_reply try v) = all_hold (ltb try 65536 ∷ is_view v ∷ replied m ∷ [])
good_body m (pair_reply try p) = all_hold (ltb try 65536 ∷ is_pair p ∷ replied m ∷ [])
good_body m (ack try) = all_hold (ltb try 65536 ∷ replied m ∷ [])

unfoldable pub good_place : Place → Bool
good_place free = true
good_place (waiting m) = good_body m m.body

-- ---- a good world

unfoldable pub well_formed : World → Bool
well_formed w =
    all_hold (
    eqb (length w.relays) 8
    ∷ all_from 0 good_relay w.relays
    ∷ eqb (length w.desks) 4
    ∷ all good_desk w.desks
    ∷ eqb (length w.places) 256
    ∷ all good_place w.places
    ∷ [])

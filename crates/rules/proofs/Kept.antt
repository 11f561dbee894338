-- EVERY ACCEPTED STEP FROM A GOOD WORLD GIVES A GOOD ONE; and what a step from a good world reports is in range. Assumes nothing.
use Rattle.std.specs.Prelude.{◌&&◌}
use mathlib.Core.Path.{◌≡◌, refl, ap, ◌∙◌}
use mathlib.Core.Logic.{⊎_elim}
use mathlib.Core.Bool.{Bool, true, false, and-eq-true_iff}
use mathlib.Core.List.{List, [], ◌∷◌, map}
use Prim.Native.Nat.{ℕ, suc, ◌+◌, ◌-◌, ◌<◌}
use native.Mathlib.Omega.{arith}
use lib.Dec.{eqb, leb, ltb}
use lib.ListN.{length, length-set}
use borrow.Author.Tests.{ltb-true, ltb-false, eqb-true, lt-ltb, eq-eqb}
use Rattle.views.proofs.Sets.{member_lt}
use Rattle.views.proofs.Truth.{contrary, either_true, cases}
use Rattle.rules.specs.Sets.{those, bit, member, all, all_hold}
use Rattle.rules.specs.Messages.{Body, request, view, proposal, converged, install, state, get, put, view_reply, pair_reply, ack, Message, Sending, copies, outgoing, Event, nothing, opened, read_done, write_done, Refusal, dead, no_room, Answer, refused, does}
use Rattle.rules.specs.State.{Desk, Phase, Idle, Read1, Read2, Write1, Write2, Relay, Place, free, waiting, World, crashed_relay, crashed_desk, no_relay, no_desk, relay_at, desk_at, place_at, with_relay, with_desk, with_places, start}
use Rattle.rules.specs.Sending.{place, place_all}
use Rattle.rules.specs.Steps.{drop, Step, Act, join, leave, timer, read, write, deliver, crash, bad, is, told, Report, Outcome, refusal, after, report, reports, roomy, relay_does, desk_does, alive_in, if_alive, freed, delivers, delivery, dropping, crashing, acts, stepped}
use Rattle.rules.specs.WellFormed.{is_pair, all_from, distinct, is_desk, good_generators, good_transfers, good_relay, good_phase, good_desk, between, good_body, good_place, well_formed}
use Rattle.rules.specs.Runs.{last_world}
use Rattle.rules.proofs.Starts.{start_good}
use Rattle.rules.proofs.Hold.{hold_facts, hold_tests, from-set, from_at, all_none, all_parts, all_more, all_set, all_at, all_append}
use Rattle.rules.proofs.Sends.{SendWell, SendsWell, EventWell, to_member}
use Rattle.rules.proofs.Relays as R
use Rattle.rules.proofs.Serving as S
use Rattle.rules.proofs.Desks as D

-- ---- a good world, by names

pub record Good (w : World) : Type 0 where
  pub eight : length w.relays ≡ 8
  pub relays : all_from 0 good_relay w.relays ≡ true
  pub four : length w.desks ≡ 4
  pub desks : all good_desk w.desks ≡ true
  pub many : length w.places ≡ 256
  pub places : all good_place w.places ≡ true

pub good_facts : (w : World) → well_formed w ≡ true → Good w
unfolding well_formed
good_facts w e =
    let h = hold_facts _ e in
    record { eight = eqb-true _ _ h.0; relays = h.1.0; four = eqb-true _ _ h.1.1.0; desks = h.1.1.1.0; many = eqb-true _ _ h.1.1.1.1.0; places = h.1.1.1.1.1.0 }

good_tests : (w : World) → Good w → well_formed w ≡ true
unfolding well_formed
good_tests w h = hold_tests _ (eq-eqb _ _ h.eight, (h.relays, (eq-eqb _ _ h.four, (h.desks, (eq-eqb _ _ h.many, (h.places, tt))))))

pub relay_of_lem : (w : World) → Good w → (s : ℕ) → good_relay s (relay_at w s) ≡ true
unfolding good_relay good_generators good_transfers is_pair all distinct all_hold
relay_of_lem w g s =
    let z : 0 + s ≡ s = omega arith in
    rw z at (from_at good_relay 0 w.relays s no_relay g.relays refl)

desk_of : (w : World) → Good w → (n : ℕ) → good_desk (desk_at w n) ≡ true
unfolding good_desk good_phase all_hold
desk_of w g n = all_at good_desk w.desks n no_desk g.desks refl

place_of : (w : World) → Good w → (p : ℕ) → good_place (place_at w p) ≡ true
unfolding good_place
place_of w g p = all_at good_place w.places p free g.places refl

-- a part of it changed
with_relay_lem : (w : World) → Good w → (s : ℕ) (r : Relay) → good_relay s r ≡ true → Good (with_relay w s r)
with_relay_lem w g s r h =
    let z : 0 + s ≡ s = omega arith in
    record {
      eight = length-set w.relays s r ∙ g.eight;
      relays = from-set good_relay 0 w.relays s r g.relays (rw z h);
      four = g.four;
      desks = g.desks;
      many = g.many;
      places = g.places;
    }

with_desk_lem : (w : World) → Good w → (n : ℕ) (d : Desk) → good_desk d ≡ true → Good (with_desk w n d)
with_desk_lem w g n d h = record { eight = g.eight; relays = g.relays; four = length-set w.desks n d ∙ g.four; desks = all_set good_desk w.desks n d g.desks h; many = g.many; places = g.places }

-- ---- messages placed

place-length : (m : Message) (ps : List Place) → length (place m ps) ≡ length ps
unfolding place
place-length m [] = refl
place-length m (free ∷ ps) = refl
place-length m (waiting x ∷ ps) = ap suc (place-length m ps)

place_good_lem : (m : Message) (ps : List Place) → good_place (waiting m) ≡ true → all good_place ps ≡ true → all good_place (place m ps) ≡ true
unfolding place
place_good_lem m [] h a = a
place_good_lem m (free ∷ ps) h a = all_more good_place (waiting m) ps h (all_parts good_place free ps a).1
place_good_lem m (waiting x ∷ ps) h a =
    let k = all_parts good_place (waiting x) ps a in
    all_more good_place (waiting x) (place m ps) k.0 (place_good_lem m ps h k.1)

abbrev sound : Message → Bool
sound m = good_place (waiting m)

pub places-length : (ms : List Message) (ps : List Place) → length (place_all ms ps) ≡ length ps
unfolding place_all
places-length [] ps = refl
places-length (m ∷ ms) ps = places-length ms (place m ps) ∙ place-length m ps

places_good : (ms : List Message) (ps : List Place) → all sound ms ≡ true → all good_place ps ≡ true → all good_place (place_all ms ps) ≡ true
unfolding place_all
places_good [] ps h a = a
places_good (m ∷ ms) ps h a =
    let k = all_parts sound m ms h in
    places_good ms (place m ps) k.1 (place_good_lem m ps k.0 a)

-- ---- what is sent well is sound

module _ (from : ℕ) (x : Sending) (h : SendWell from x) where
  abbrev copy : ℕ → Message
  copy n = record { from = from; to = n; body = x.body }

  copies-sound : (ns : List ℕ) → all (λ n. ltb n 12) ns ≡ true → all sound (map copy (those (bit x.receivers) ns)) ≡ true
  unfolding those good_place
  copies-sound [] a = all_none sound
  copies-sound (n ∷ ns) a =
      let k = all_parts (λ n. ltb n 12) n ns a in
      let r = copies-sound ns k.1 in
      cases (λ (l : List ℕ). all sound (map copy l) ≡ true) (bit x.receivers n)
      (λ e. all_more sound (copy n) (map copy (those (bit x.receivers) ns)) (h n (ltb-true n 12 k.0) e) r) (λ _. r)

outgoing-sound : (from : ℕ) (ss : List Sending) → SendsWell from ss → all sound (outgoing from ss) ≡ true
unfolding outgoing copies SendsWell
outgoing-sound from [] h = all_none sound
outgoing-sound from (x ∷ ss) h = all_append sound (copies from x) (outgoing from ss) (copies-sound from x h.0 _ (unfold all in refl)) (outgoing-sound from ss h.1)

-- what is sent well joins the messages that wait
with_sent : {w : World} → Good w → (from : ℕ) (ss : List Sending) → SendsWell from ss → Good (with_places w (place_all (outgoing from ss) w.places))
with_sent {w} g from ss h = record {
  eight = g.eight;
  relays = g.relays;
  four = g.four;
  desks = g.desks;
  many = places-length (outgoing from ss) w.places ∙ g.many;
  places = places_good (outgoing from ss) w.places (outgoing-sound from ss h) g.places;
}

-- ---- outcomes

-- an event of one of eight relays or four desks
pub record Tells (r : Report) : Type 0 where
  pub event : EventWell r.event
  pub who : r.who < 8

pub record Keeps (w : World) (o : Outcome) : Type 0 where
  pub good : Good (after w o)
  pub tells : Tells (report o)

tells_nothing : (who : ℕ) → Tells (reports nothing who)
tells_nothing who = record { event = tt; who = omega arith }

tells_who : (e : Event) (who : ℕ) → EventWell e → who < 8 → Tells (reports e who)
tells_who nothing who t l = tells_nothing who
tells_who (opened v) who t l = record { event = t; who = l }
tells_who (read_done p) who t l = record { event = t; who = l }
tells_who (write_done p) who t l = record { event = t; who = l }

refuses : (w : World) → Good w → (x : Refusal) → Keeps w (refusal x)
refuses w g x = record { good = g; tells = tells_nothing 0 }

module _ (w f : World) (g : Good w) (k : Good f) (n : ℕ) where
  relay_does_lem : (s : ℕ) → s < 8 → (a : Answer Relay) → R.GoodAnswer s a → Keeps w (relay_does f n s a)
  unfolding relay_does R.GoodAnswer
  relay_does_lem s l (refused x) h = refuses w g x
  relay_does_lem s l (does r ss e) h =
      cases (Keeps w) (roomy f (outgoing s ss) && (leb (length r.generators) 8 && leb (length r.transfers) 8))
      (λ c.
      let sizes = (and-eq-true_iff (leb (length r.generators) 8) (leb (length r.transfers) 8)).0 ((and-eq-true_iff (roomy f (outgoing s ss)) _).0 c).1 in
      let next : Good (with_relay f s r) = with_relay_lem f k s r (R.rel_tests s r h.0 sizes.0 sizes.1) in
      record { good = with_sent next s ss h.1.0; tells = tells_who e s h.1.1 l })
      (λ c. refuses w g no_room)

  desk-does : (d : ℕ) → d < 4 → (a : Answer Desk) → D.GoodAnswer d a → Keeps w (desk_does f n d a)
  unfolding desk_does D.GoodAnswer
  desk-does d l (refused x) h = refuses w g x
  desk-does d l (does next ss e) h =
      cases (Keeps w) (roomy f (outgoing (8 + d) ss))
      (λ c.
      let put : Good (with_desk f d next) = with_desk_lem f k d next (D.desk_tests next h.0) in
      record { good = with_sent put (8 + d) ss h.1.0; tells = tells_who e d h.1.1 (omega arith) })
      (λ c. refuses w g no_room)

if_alive_lem : (w : World) → Good w → (who : ℕ) (o : Outcome) → Keeps w o → Keeps w (if_alive w who o)
unfolding if_alive
if_alive_lem w g who o h = cases (Keeps w) (alive_in w who) (λ e. h) (λ e. refuses w g dead)

-- ---- delivery

-- what does not go to a relay goes to a desk
seat_clash : (v to : ℕ) → member v to ≡ true → ltb to 8 ≡ false → is_desk to ≡ true
seat_clash v to m e = absurd (contrary (lt-ltb to 8 (member_lt v to m)) e)

pub to-desk : (m : Message) (b : Body) → good_body m b ≡ true → ltb m.to 8 ≡ false → is_desk m.to ≡ true
unfolding good_body
to-desk m (request u c) g e = seat_clash c m.to (hold_facts _ g).1.1.1.0 e
to-desk m (view v) g e = absurd (contrary (hold_facts _ g).1.0 e)
to-desk m (proposal v q) g e = seat_clash v m.to (to_member v v m (hold_facts _ g).1.0) e
to-desk m (converged v q) g e = seat_clash v m.to (to_member v v m (hold_facts _ g).1.0) e
to-desk m (install o w q) g e =
    ⊎_elim (λ k. seat_clash o m.to (to_member o o m k) e) (λ k. seat_clash w m.to (to_member o w m k) e)
    (either_true (between o o m) (between o w m) (hold_facts _ g).1.1.0)
to-desk m (state o w p updates) g e = seat_clash w m.to (to_member o w m (hold_facts _ g).1.0) e
to-desk m (get try c) g e = seat_clash c m.to ((and-eq-true_iff (is_desk m.from) _).0 (hold_facts _ g).1.1.0).1 e
to-desk m (put try c p) g e = seat_clash c m.to ((and-eq-true_iff (is_desk m.from) _).0 (hold_facts _ g).1.1.0).1 e
to-desk m (view_reply try v) g e = ((and-eq-true_iff (ltb m.from 8) _).0 (hold_facts _ g).1.1.0).1
to-desk m (pair_reply try p) g e = ((and-eq-true_iff (ltb m.from 8) _).0 (hold_facts _ g).1.1.0).1
to-desk m (ack try) g e = ((and-eq-true_iff (ltb m.from 8) _).0 (hold_facts _ g).1.0).1

module _ (w : World) (g : Good w) where
  freed_good : (p : ℕ) → Good (freed w p)
  unfolding freed good_place
  freed_good p = record { eight = g.eight; relays = g.relays; four = g.four; desks = g.desks; many = length-set w.places p free ∙ g.many; places = all_set good_place w.places p free g.places refl }

  delivers_good : (p : ℕ) (m : Message) → good_body m m.body ≡ true → Keeps w (delivers (freed w p) m)
  unfolding delivers
  delivers_good p m b =
      let f = freed_good p in
      cases (Keeps w) (ltb m.to 8)
      (λ e.
      let l : m.to < 8 = ltb-true m.to 8 e in
      relay_does_lem w (freed w p) g f 1 m.to l _
      (S.hears-kept m.to (relay_at (freed w p) m.to) m.from m.body (R.rel_facts m.to (relay_at (freed w p) m.to) (relay_of_lem (freed w p) f m.to)) l b))
      (λ e.
      let d = to-desk m m.body b e in
      let l : m.to - 8 < 4 = omega (arith, ltb-true m.to 12 ((and-eq-true_iff (leb 8 m.to) (ltb m.to 12)).0 d).1, ltb-false m.to 8 e) in
      desk-does w (freed w p) g f 1 (m.to - 8) l _
      (D.hears-kept (m.to - 8) l (desk_at (freed w p) (m.to - 8)) m m.body (D.desk_facts (desk_at (freed w p) (m.to - 8)) (desk_of (freed w p) f (m.to - 8))) b))

  delivery_good : (p : ℕ) (x : Place) → good_place x ≡ true → Keeps w (delivery w p x)
  unfolding delivery good_place
  delivery_good p free h = refuses w g _
  delivery_good p (waiting m) h = if_alive_lem w g m.to _ (delivers_good p m h)

  dropping_good : (p : ℕ) (x : Place) → Keeps w (dropping w p x)
  unfolding dropping
  dropping_good p free = refuses w g _
  dropping_good p (waiting m) = record { good = freed_good p; tells = tells_nothing 0 }

  relay_crashed : (s : ℕ) (r : Relay) → good_relay s r ≡ true → good_relay s (crashed_relay r) ≡ true
  unfolding good_relay crashed_relay
  relay_crashed s r h = h

  phase_crashed : (ph : Phase) (d : Desk) → good_phase ph d ≡ true → good_phase ph (crashed_desk d) ≡ true
  unfolding crashed_desk good_phase
  phase_crashed Idle d h = h
  phase_crashed Read1 d h = h
  phase_crashed Read2 d h = h
  phase_crashed Write1 d h = h
  phase_crashed Write2 d h = h

  desk_crashed : (d : Desk) → good_desk d ≡ true → good_desk (crashed_desk d) ≡ true
  desk_crashed d e =
      let h = D.desk_facts d e in
      D.desk_tests (crashed_desk d) (unfold crashed_desk in (record { view = h.view; tries = h.tries; who = h.who; phase = phase_crashed d.phase d h.phase }))

  crashing_good : (who : ℕ) → who < 12 → Keeps w (crashing w who)
  unfolding crashing
  crashing_good who l =
      cases (Keeps w) (ltb who 8)
      (λ e. record { good = with_relay_lem w g who _ (relay_crashed who (relay_at w who) (relay_of_lem w g who)); tells = tells_nothing 0 })
      (λ e. record { good = with_desk_lem w g (who - 8) _ (desk_crashed (desk_at w (who - 8)) (desk_of w g (who - 8))); tells = tells_nothing 0 })

-- ---- the steps

-- what a step tells names relays, desks and values in range
unfoldable InRange : Act → Type 0
InRange (join s) = s < 8
InRange (leave s) = s < 8
InRange (timer s) = s < 8
InRange (read n) = n < 4
InRange (write n x) = (n < 4) × (x < 4294967296)
InRange (deliver p) = Unit {0}
InRange (drop p) = Unit {0}
InRange (crash who) = who < 12
InRange bad = Unit {0}

is_id : (k : Step) (kind ids : ℕ) → is k kind ids ≡ true → k.id < ids
is_id k kind ids e =
    let h = (and-eq-true_iff (eqb k.kind kind) (ltb k.id ids && eqb k.value 0)).0 e in
    ltb-true k.id ids ((and-eq-true_iff (ltb k.id ids) (eqb k.value 0)).0 h.1).0

in_range : (k : Step) → InRange (told k)
unfolding told InRange
in_range k =
    cases InRange (is k 1 8) (λ e. is_id k 1 8 e) (λ _.
    cases InRange (is k 2 8) (λ e. is_id k 2 8 e) (λ _.
    cases InRange (is k 3 8) (λ e. is_id k 3 8 e) (λ _.
    cases InRange (is k 4 4) (λ e. is_id k 4 4 e) (λ _.
    cases InRange (eqb k.kind 5 && (ltb k.id 4 && ltb k.value 4294967296))
    (λ e.
    let h = (and-eq-true_iff (ltb k.id 4) (ltb k.value 4294967296)).0 ((and-eq-true_iff (eqb k.kind 5) _).0 e).1 in
    (ltb-true k.id 4 h.0, ltb-true k.value 4294967296 h.1)) (λ _.
    cases InRange (is k 6 256) (λ _. tt) (λ _.
    cases InRange (is k 7 256) (λ _. tt) (λ _.
    cases InRange (is k 8 12) (λ e. is_id k 8 12 e) (λ _. tt))))))))

acts_good : (w : World) → Good w → (a : Act) → InRange a → Keeps w (acts w a)
unfolding acts InRange
acts_good w g (join s) l = if_alive_lem w g s _ (relay_does_lem w w g g 0 s l _ (S.join_kept s (relay_at w s) (R.rel_facts s (relay_at w s) (relay_of_lem w g s)) l))
acts_good w g (leave s) l = if_alive_lem w g s _ (relay_does_lem w w g g 0 s l _ (S.leave-kept s (relay_at w s) (R.rel_facts s (relay_at w s) (relay_of_lem w g s)) l))
acts_good w g (timer s) l = if_alive_lem w g s _ (relay_does_lem w w g g 0 s l _ (S.timer-kept s (relay_at w s) (R.rel_facts s (relay_at w s) (relay_of_lem w g s)) l))
acts_good w g (read n) l = if_alive_lem w g (8 + n) _ (desk-does w w g g 0 n l _ (D.read_kept n l (desk_at w n) (D.desk_facts (desk_at w n) (desk_of w g n))))
acts_good w g (write n x) l =
    if_alive_lem w g (8 + n) _ (desk-does w w g g 0 n l.0 _ (D.write_kept n l.0 (desk_at w n) x (D.desk_facts (desk_at w n) (desk_of w g n)) l.1))
acts_good w g (deliver p) l = delivery_good w g p (place_at w p) (place_of w g p)
acts_good w g (drop p) l = dropping_good w g p (place_at w p)
acts_good w g (crash who) l = if_alive_lem w g who _ (crashing_good w g who l)
acts_good w g bad l = refuses w g _

pub step_keeps : (w : World) (k : Step) → well_formed w ≡ true → well_formed (after w (stepped w k)) ≡ true
unfolding stepped
step_keeps w k e = good_tests _ (acts_good w (good_facts w e) (told k) (in_range k)).good

pub step_tells : (w : World) (k : Step) → well_formed w ≡ true → Tells (report (stepped w k))
unfolding stepped
step_tells w k e = (acts_good w (good_facts w e) (told k) (in_range k)).tells

-- every world of a run is good
pub run-keeps : (w : World) (ks : List Step) → well_formed w ≡ true → well_formed (last_world w ks) ≡ true
unfolding last_world
run-keeps w [] e = e
run-keeps w (k ∷ ks) e = run-keeps (after w (stepped w k)) ks (step_keeps w k e)

pub always_good : (mask : ℕ) → 0 < mask → mask < 256 → (ks : List Step) → well_formed (last_world (start mask) ks) ≡ true
always_good mask p h ks = run-keeps (start mask) ks (start_good mask p h)

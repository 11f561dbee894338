-- "Checked in this order, the first that applies": the table of answers (specs/Table) as one equation, over any well-formed world and any step. Assumes
-- nothing.
use Rattle.std.specs.Prelude.{if◌then◌else◌, ◌&&◌, ◌||◌}
use mathlib.Core.Path.{◌≡◌, refl, ap, ◌∙◌}
use mathlib.Core.Bool.{Bool, true, false, not}
use mathlib.Core.List.{List, [], ◌∷◌}
use Prim.Native.Nat.{ℕ, zero, suc, ◌+◌, ◌-◌, ◌<◌}
use native.Mathlib.Omega.{arith}
use lib.Dec.{eqb, leb, ltb, lit<}
use lib.ListN.{length}
use borrow.Author.Tests.{leb-true, le-ltb, ne_eqb}
use Rattle.views.proofs.Truth.{cases}
use Rattle.rules.specs.Sets.{within, member, reaches, inside, joins, none}
use Rattle.rules.specs.Stamps.{Pair}
use Rattle.rules.specs.Messages.{Body, request, view, proposal, converged, install, state, get, put, view_reply, pair_reply, ack, Message, Sending, outgoing, Event, bad_world, bad_step, empty, dead, not_now, not_yet, worn, no_room, number, Answer, refused, does, sends, to_members}
use Rattle.rules.specs.State.{Desk, Phase, Idle, Read1, Read2, Write1, Write2, Transfer, Relay, Place, free, waiting, World, relay_at, desk_at, place_at}
use Rattle.rules.specs.Sending.{free_in}
use Rattle.rules.specs.Generators.{Turn}
use Rattle.rules.specs.Relays.{at_generator, join_asked, leave_asked, timer_rang, request_heard, passes, onward, enters, tested, early, stopped, handed, takes_install, sent_first, install_heard, state_heard, serves, get_heard, put_heard, relay_hears}
use Rattle.rules.specs.Desks.{is_idle, is_first, is_second, full, cleared, asks, begins, read_asked, write_asked, current, view_came, takes_stamp, completes, counted, pair_came, ack_came, desk_hears}
use Rattle.rules.specs.Steps.{Step, Act, join, leave, timer, read, write, deliver, drop, crash, bad, told, Outcome, refusal, roomy, relay_does, desk_does, alive_in, if_alive, freed, delivers, delivery, dropping, crashing, acts, stepped}
use Rattle.rules.specs.WellFormed.{good_generators, good_transfers, good_relay, well_formed}
use Rattle.rules.specs.Runs.{answer}
use Rattle.rules.specs.Table.{first_of, out_of_range, further, is_free, is_dead, receiver_dead, is_not_now, must_wait, message_waits, is_not_yet, phase_wears, quorum_wears, reply_wears, message_wears, worn_out, lacks_generator, takes_generator, takes_transfer, heard_by, delivered, ruling, relay_room, desk_room, room, table, relayed, desked}
use Rattle.rules.proofs.Taken.{Fits, Few, join_fits, leave_fits, timer_fits, hears_fits}
use Rattle.rules.proofs.Hold.{hold_facts}
use Rattle.rules.proofs.Kept.{good_facts, relay_of_lem}

-- ---- a rule refuses with NOT NOW, NOT YET or WORN, each where the three say so, the first that does

data Own (A : Type 0) : (now yet worn : Bool) → Answer A → Type 0 where
  now : {y z : Bool} → Own A true y z (refused not_now)
  yet : {z : Bool} → Own A false true z (refused not_yet)
  wear : Own A false false true (refused worn)
  deed : {a : A} {ss : List Sending} {e : Event} → Own A false false false (does a ss e)

module _ {A : Type 0} where
  if_now : (b : Bool) {z : Bool} {a : Answer A} → Own A false false z a → Own A b false z (if b then refused not_now else a)
  if_now true h = now
  if_now false h = h

  unless_now : (b : Bool) {z : Bool} {a : Answer A} → Own A false false z a → Own A (not b) false z (if b then a else refused not_now)
  unless_now true h = h
  unless_now false h = now

  if_yet : (b : Bool) {a : Answer A} → Own A false false false a → Own A false b false (if b then refused not_yet else a)
  if_yet true h = yet
  if_yet false h = h

  if_worn : (b : Bool) {z : Bool} {a : Answer A} → Own A false false z a → Own A false false (b || z) (if b then refused worn else a)
  if_worn true h = wear
  if_worn false h = h

  if_so : (b : Bool) {z : Bool} {a c : Answer A} → Own A false false z a → Own A false false false c → Own A false false (b && z) (if b then a else c)
  if_so true h k = h
  if_so false h k = k

  if_not : (b : Bool) {z : Bool} {a c : Answer A} → Own A false false false c → Own A false false z a → Own A false false (not b && z) (if b then c else a)
  if_not true k h = k
  if_not false k h = h

-- a rule that refuses nothing
abbrev Free : {A : Type 0} → Answer A → Type 0
Free {A} = Own A false false false

at_own : (r : Relay) (t : Turn) → Free (at_generator r t)
unfolding at_generator
at_own r t = deed

join-own : (s : ℕ) (r : Relay) → Own Relay (r.entered || within (joins s) r.known) false false (join_asked s r)
unfolding join_asked
join-own s r = if_now (r.entered || within (joins s) r.known) deed

leave_own : (s : ℕ) (r : Relay) → Own Relay (not (member r.view s)) false false (leave_asked s r)
unfolding leave_asked
leave_own s r = unless_now (member r.view s) deed

timer-own : (r : Relay) → Own Relay (not (r.active && not (within r.pending r.view))) false false (timer_rang r)
unfolding timer_rang
timer-own r = unless_now (r.active && not (within r.pending r.view)) (at_own r _)

request-own : (r : Relay) (from u c : ℕ) → Free (request_heard r from u c)
unfolding request_heard
request-own r from u c = cases Free (not r.entered) (λ _. deed) (λ _. cases Free (eqb r.view c) (λ _. deed) (λ _. deed))

tested-own : (r : Relay) (t : Transfer) → Free (tested r t)
unfolding tested enters
tested-own r t = cases Free (passes t) (λ _. cases Free (none (onward t)) (λ _. deed) (λ _. at_own _ _)) (λ _. deed)

first-own : (ss : List Sending) (a : Answer Relay) → Free a → Free (sent_first ss a)
first-own ss (does r later e) deed = deed
first-own ss (refused x) own = elim own [ ]

install-own : (s : ℕ) (r : Relay) (o w : ℕ) (q : List ℕ) → Own Relay false (early s r o) false (install_heard s r o w q)
unfolding install_heard takes_install
install-own s r o w q =
    if_yet (early s r o)
    (first-own (handed s r o w) (takes_install s (stopped s r o w) o w q)
    (cases Free (inside (stopped s r o w).view w && member w s) (λ _. tested-own (stopped s r o w) _) (λ _. deed)))

state-own : (r : Relay) (from o w : ℕ) (p : Pair) (u : ℕ) → Free (state_heard r from o w p u)
unfolding state_heard
state-own r from o w p u = cases Free (inside r.view w) (λ _. tested-own r _) (λ _. deed)

get-own : (r : Relay) (from try c : ℕ) → Own Relay false (not (serves r c)) false (get_heard r from try c)
unfolding get_heard
get-own r from try c = if_yet (not (serves r c)) (cases Free (inside c r.view) (λ _. deed) (λ _. deed))

put-own : (r : Relay) (from try c : ℕ) (p : Pair) → Own Relay false (not (serves r c)) false (put_heard r from try c p)
unfolding put_heard
put-own r from try c p = if_yet (not (serves r c)) (cases Free (inside c r.view) (λ _. deed) (λ _. deed))

relay_own : (s : ℕ) (r : Relay) (from : ℕ) (b : Body) → Own Relay false (must_wait s r b) false (relay_hears s r from b)
unfolding relay_hears
relay_own s r from (request u c) = request-own r from u c
relay_own s r from (view v) = deed
relay_own s r from (proposal v q) = at_own r _
relay_own s r from (converged v q) = at_own r _
relay_own s r from (install o w q) = install-own s r o w q
relay_own s r from (state o w p u) = state-own r from o w p u
relay_own s r from (get try c) = get-own r from try c
relay_own s r from (put try c p) = put-own r from try c p
relay_own s r from (view_reply try v) = deed
relay_own s r from (pair_reply try p) = deed
relay_own s r from (ack try) = deed

begins-own : (d : Desk) (ph : Phase) (v : ℕ) (p : Pair) → Own Desk false false (full d.tries) (begins d ph v p)
unfolding begins
begins-own d ph v p = go (full d.tries)
  where
    go : (b : Bool) → Own Desk false false b (if b then refused worn else sends (cleared d ph v p (d.tries + 1)) (to_members v (asks ph (d.tries + 1) v p) ∷ []))
    go true = wear
    go false = deed

read-own : (d : Desk) → Own Desk (not (is_idle d.phase)) false (full d.tries) (read_asked d)
unfolding read_asked
read-own d = unless_now (is_idle d.phase) (begins-own d _ _ _)

write-own : (d : Desk) (x : ℕ) → Own Desk (not (is_idle d.phase)) false (full d.tries) (write_asked d x)
unfolding write_asked
write-own d x = unless_now (is_idle d.phase) (begins-own d _ _ _)

completes-own : (n : ℕ) (d : Desk) (ph : Phase) → Own Desk false false (phase_wears d ph) (completes n d ph)
unfolding completes takes_stamp
completes-own n d Idle = deed
completes-own n d Read1 = if_not d.agreed deed (begins-own d _ _ _)
completes-own n d Read2 = deed
completes-own n d Write1 = if_worn (full d.best.stamp.count) (begins-own d _ _ _)
completes-own n d Write2 = deed

counted-own : (n : ℕ) (d : Desk) → Own Desk false false (quorum_wears d) (counted n d)
unfolding counted
counted-own n d = if_so (reaches d.view d.replied) (completes-own n d d.phase) deed

desk-own : (n : ℕ) (d : Desk) (from : ℕ) (b : Body) → Own Desk false false (reply_wears d from b) (desk_hears n d from b)
unfolding desk_hears view_came pair_came ack_came
desk-own n d from (view_reply try v) = if_so (current d from try && inside d.view v) (begins-own d _ _ _) deed
desk-own n d from (pair_reply try p) = if_so (current d from try && is_first d.phase) (counted-own n _) deed
desk-own n d from (ack try) = if_so (current d from try && is_second d.phase) (counted-own n _) deed
desk-own n d from (request u c) = deed
desk-own n d from (view v) = deed
desk-own n d from (proposal v q) = deed
desk-own n d from (converged v q) = deed
desk-own n d from (install o w q) = deed
desk-own n d from (state o w p u) = deed
desk-own n d from (get try c) = deed
desk-own n d from (put try c p) = deed

-- ---- the answer is the table's

alive-row : (w : World) (who : ℕ) (o : Outcome) (rows : List (Bool × ℕ)) → answer o ≡ first_of rows
    → answer (if_alive w who o) ≡ first_of ((is_dead w who, number dead) ∷ rows)
unfolding if_alive
alive-row w who o rows e = go (alive_in w who)
  where
    go : (b : Bool) → answer (if b then o else refusal dead) ≡ (if not b then number dead else first_of rows)
    go true = e
    go false = refl

room_row : (b : Bool) (o : Outcome) → answer o ≡ 0 → answer (if b then o else refusal no_room) ≡ (if not b then number no_room else 0)
room_row true o e = e
room_row false o e = refl

module _ (f : World) (n : ℕ) where
  relay_rows : (s : ℕ) (g t : Bool) {x y z : Bool} (a : Answer Relay) → Own Relay x y z a → Fits (relay_at f s) g t a
      → answer (relay_does f n s a) ≡ first_of ((x, number not_now) ∷ (y, number not_yet) ∷ (z, number worn) ∷ (not (relay_room f s g t a), number no_room) ∷ [])
  unfolding relay_does roomy
  relay_rows s g t (refused not_now) now fits = refl
  relay_rows s g t (refused not_yet) yet fits = refl
  relay_rows s g t (refused worn) wear fits = refl
  relay_rows s g t (refused bad_world) own fits = elim own [ ]
  relay_rows s g t (refused bad_step) own fits = elim own [ ]
  relay_rows s g t (refused empty) own fits = elim own [ ]
  relay_rows s g t (refused dead) own fits = elim own [ ]
  relay_rows s g t (refused no_room) own fits = elim own [ ]
  relay_rows s g t (does r ss e) deed fits =
      rw (← fits.0, ← fits.1) (room_row
      (leb (length (outgoing s ss)) (free_in f.places) && (leb (length r.generators) 8 && leb (length r.transfers) 8)) _ refl)

  desk_rows : (d : ℕ) {x y z : Bool} (a : Answer Desk) → Own Desk x y z a
      → answer (desk_does f n d a) ≡ first_of ((x, number not_now) ∷ (y, number not_yet) ∷ (z, number worn) ∷ (not (desk_room f d a), number no_room) ∷ [])
  unfolding desk_does roomy
  desk_rows d (refused not_now) now = refl
  desk_rows d (refused not_yet) yet = refl
  desk_rows d (refused worn) wear = refl
  desk_rows d (refused bad_world) own = elim own [ ]
  desk_rows d (refused bad_step) own = elim own [ ]
  desk_rows d (refused empty) own = elim own [ ]
  desk_rows d (refused dead) own = elim own [ ]
  desk_rows d (refused no_room) own = elim own [ ]
  desk_rows d (does next ss e) deed = room_row (leb (length (outgoing (8 + d) ss)) (free_in f.places)) _ refl

-- what a step at an actor that lives comes to
abbrev rest : World → Act → List (Bool × ℕ)
rest w a = (is_not_now w a, number not_now) ∷ (is_not_yet w a, number not_yet) ∷ (worn_out w a, number worn) ∷ (not (room (ruling w a)), number no_room) ∷ []

delivers_rows : (w : World) (p : ℕ) (m : Message) → Few (relay_at w m.to) → answer (delivers (freed w p) m)
    ≡ first_of ((message_waits w (waiting m), number not_yet) ∷ (message_wears w (waiting m), number worn)
    ∷ (not (room (heard_by (freed w p) m)), number no_room) ∷ [])
unfolding delivers freed
delivers_rows w p m few = go (ltb m.to 8)
  where
    f : World
    f = freed w p

    g : Bool
    g = takes_generator m.to (relay_at f m.to) m.from m.body

    t : Bool
    t = takes_transfer m.to (relay_at f m.to) m.body

    a : Answer Relay
    a = relay_hears m.to (relay_at f m.to) m.from m.body

    d : Answer Desk
    d = desk_hears (m.to - 8) (desk_at f (m.to - 8)) m.from m.body

    go : (b : Bool) → answer (if b then relay_does f 1 m.to a else desk_does f 1 (m.to - 8) d)
        ≡ first_of ((b && must_wait m.to (relay_at w m.to) m.body, number not_yet) ∷ (not b && reply_wears (desk_at w (m.to - 8)) m.from m.body, 7)
        ∷ (not (room (if b then relayed f m.to g t a else desked f (m.to - 8) d)), number no_room) ∷ [])
    go true = relay_rows f 1 m.to g t a (relay_own m.to _ m.from m.body) (hears_fits (relay_at w m.to) few m.to m.from m.body)
    go false = desk_rows f 1 (m.to - 8) d (desk-own (m.to - 8) _ m.from m.body)

delivery_rows : (w : World) → ((s : ℕ) → Few (relay_at w s)) → (p : ℕ) (x : Place) → answer (delivery w p x)
    ≡ first_of ((is_free x, number empty) ∷ (receiver_dead w x, number dead) ∷ (message_waits w x, number not_yet)
    ∷ (message_wears w x, number worn) ∷ (not (room (delivered w p x)), number no_room) ∷ [])
unfolding delivery
delivery_rows w few p free = refl
delivery_rows w few p (waiting m) =
    alive-row w m.to _ ((message_waits w (waiting m), number not_yet) ∷ (message_wears w (waiting m), number worn)
    ∷ (not (room (heard_by (freed w p) m)), number no_room) ∷ []) (delivers_rows w p m (few m.to))

dropping-row : (w : World) (p : ℕ) (x : Place) → answer (dropping w p x) ≡ first_of ((is_free x, number empty) ∷ [])
unfolding dropping
dropping-row w p free = refl
dropping-row w p (waiting m) = refl

crashing-row : (w : World) (who : ℕ) → answer (crashing w who) ≡ 0
unfolding crashing
crashing-row w who = cases (λ (o : Outcome). answer o ≡ 0) (ltb who 8) (λ _. refl) (λ _. refl)

abbrev is_bad : Act → Bool
is_bad (join s) = false
is_bad (leave s) = false
is_bad (timer s) = false
is_bad (read n) = false
is_bad (write n x) = false
is_bad (deliver p) = false
is_bad (drop p) = false
is_bad (crash who) = false
is_bad bad = true

acts_rows : (w : World) → ((s : ℕ) → Few (relay_at w s)) → (a : Act) → answer (acts w a) ≡ first_of ((is_bad a, number bad_step) ∷ further w a)
unfolding acts
acts_rows w few (join s) = alive-row w s _ (rest w (join s)) (relay_rows w 0 s false false _ (join-own s (relay_at w s)) (join_fits (relay_at w s) (few s) s))
acts_rows w few (leave s) = alive-row w s _ (rest w (leave s)) (relay_rows w 0 s false false _ (leave_own s (relay_at w s)) (leave_fits (relay_at w s) (few s) s))
acts_rows w few (timer s) = alive-row w s _ (rest w (timer s))
    (relay_rows w 0 s (lacks_generator (relay_at w s) (relay_at w s).view) false _ (timer-own (relay_at w s)) (timer_fits (relay_at w s) (few s)))
acts_rows w few (read n) = alive-row w (8 + n) _ (rest w (read n)) (desk_rows w 0 n _ (read-own (desk_at w n)))
acts_rows w few (write n x) = alive-row w (8 + n) _ (rest w (write n x)) (desk_rows w 0 n _ (write-own (desk_at w n) x))
acts_rows w few (deliver p) = delivery_rows w few p (place_at w p)
acts_rows w few (drop p) = dropping-row w p (place_at w p)
acts_rows w few (crash who) = alive-row w who _ (rest w (crash who)) (crashing-row w who)
acts_rows w few bad = refl

-- what is told is bad exactly where the kind, the id or the value is out of range
if_told : (b : Bool) (a : Act) → is_bad a ≡ false → is_bad (if b then a else bad) ≡ not b
if_told true a e = e
if_told false a e = refl

in_range : (k : Step) → is_bad (told k) ≡ out_of_range k
unfolding told
in_range k = go k.kind k.id k.value
  where
    go : (kind id x : ℕ) → is_bad (told (record { kind = kind; id = id; value = x })) ≡ out_of_range (record { kind = kind; id = id; value = x })
    go zero id x = rw (le-ltb id 0 (omega arith))
    go (suc zero) id x = if_told (ltb id 8 && eqb x 0) (join id) refl
    go (suc (suc zero)) id x = if_told (ltb id 8 && eqb x 0) (leave id) refl
    go (suc (suc (suc zero))) id x = if_told (ltb id 8 && eqb x 0) (timer id) refl
    go (suc (suc (suc (suc zero)))) id x = if_told (ltb id 4 && eqb x 0) (read id) refl
    go (suc (suc (suc (suc (suc zero))))) id x = if_told (ltb id 4 && ltb x 4294967296) (write id x) refl
    go (suc (suc (suc (suc (suc (suc zero)))))) id x = if_told (ltb id 256 && eqb x 0) (deliver id) refl
    go (suc (suc (suc (suc (suc (suc (suc zero))))))) id x = if_told (ltb id 256 && eqb x 0) (drop id) refl
    go (suc (suc (suc (suc (suc (suc (suc (suc zero)))))))) id x = if_told (ltb id 12 && eqb x 0) (crash id) refl
    go (suc (suc (suc (suc (suc (suc (suc (suc (suc k))))))))) id x =
        let n : ℕ = suc (suc (suc (suc (suc (suc (suc (suc (suc k)))))))) in
        let other : (i : ℕ) → i < 9 → eqb n i ≡ false = λ i h. ne_eqb n i (λ e. omega arith) in
        rw (other 1 (lit< tt), other 2 (lit< tt), other 3 (lit< tt), other 4 (lit< tt), other 5 (lit< tt), other 6 (lit< tt), other 7 (lit< tt), other 8 (lit< tt), le-ltb id 0 (omega arith))

-- "up to 8 generators; up to 8 transfers"
tables_few : (w : World) → well_formed w ≡ true → (s : ℕ) → Few (relay_at w s)
unfolding good_relay good_generators good_transfers
tables_few w good s =
    let h = hold_facts _ (relay_of_lem w (good_facts w good) s) in
    record { generators = leb-true _ _ (hold_facts _ h.1.1.1.1.1.1.0).0; transfers = leb-true _ _ (hold_facts _ h.1.1.1.1.1.1.1.0).0 }

-- the answer of every step of a good world is the first row of the table that applies
pub first_applies : (w : World) → well_formed w ≡ true → (k : Step) → answer (stepped w k) ≡ first_of (table w k)
unfolding stepped
first_applies w good k = acts_rows w (tables_few w good) (told k) ∙ ap (λ (b : Bool). first_of ((b, number bad_step) ∷ further w (told k))) (in_range k)

-- A plan committed: what its answer says of the rule's, the room that it needs, and the world after it. Assumes nothing.
use Rattle.std.specs.Prelude.{if◌then◌else◌, Result, Ok, Err}
use mathlib.Core.Path.{◌≡◌, refl, sym, ap, ◌∙◌}
use mathlib.Core.Logic.{◌≢◌, ⊎_elim}
use mathlib.Core.Bool.{Bool, true, false, ◌&&◌, and-false}
use mathlib.Core.List.{List}
use Prim.Native.Nat.{ℕ, ◌+◌, ◌-◌, ◌<◌}
use native.Mathlib.Omega.{arith}
use lib.Dec.{leb, ltb}
use lib.ListN.{length}
use borrow.Author.Tests.{le-ltb}
use Rattle.views.proofs.Truth.{decided}
use Rattle.rows.specs.Bytes.{placed}
use Rattle.rows.proofs.Laws.{placed_fits}
use Rattle.rules.specs.Messages.{Sending, outgoing, Refusal, bad_world, bad_step, empty, dead, not_now, not_yet, worn, no_room, number, Answer, refused, does}
use Rattle.rules.specs.State.{Relay, no_relay, no_desk, World, relay_at, with_relay, with_desk, with_places}
use Rattle.rules.specs.declared.Desk.{Desk}
use Rattle.rules.specs.Sending.{place_all, free_in}
use Rattle.rules.specs.Coded.{number_of}
use Rattle.rules.specs.declared.Refusal.{Refusal as Code-refusal}
use Rattle.rules.specs.declared.Refusal.TheVariants.{BadWorld, BadStep, Empty, Dead, NotNow, NotYet, Worn, NoRoom, BadSheet}
use Rattle.rules.specs.Steps.{no_report, reports, roomy, relay_does, desk_does, freed}
use Rattle.rules.specs.Steps as rules-steps
use Rattle.layout.specs.Layout.{desk_begin}
use Rattle.layout.specs.Image.{desk_bytes, image, world_at, good_bytes}
use Rattle.layout.specs.Lent.{kept}
use Rattle.layout.proofs.Widths.{length-desk, length-image}
use Rattle.layout.proofs.World.{good_image}
use Rattle.layout.proofs.Write.{put-desk}
use Rattle.state.specs.Plans.{Planned, planned}
use Rattle.world.specs.declared.Report.{Report}
use Rattle.world.specs.declared.Answer.{Answer as Given-answer}
use Rattle.world.specs.Answer.{report_of, answer_of, lent_of, done_of, accepted}
use Rattle.locality.specs.Narrow.{widened}
use Rattle.locality.specs.Asked.{Few}
use Rattle.world.specs.Commits.{row_of, free_rows, freed_at, delivered, relay_left, desk_left}
use Rattle.locality.proofs.Few.{bounded_out}
use Rattle.world.proofs.Places.{free_rows_lem, freed_rooms, freed_long}
use Rattle.world.proofs.Good.{shaped}

-- ---- the answer that a plan is for

-- a refusal of the code has a number too
pub coded_number : (x : Code-refusal) → number_of x ≢ 0
coded_number BadWorld e = omega arith
coded_number BadStep e = omega arith
coded_number Empty e = omega arith
coded_number Dead e = omega arith
coded_number NotNow e = omega arith
coded_number NotYet e = omega arith
coded_number Worn e = omega arith
coded_number NoRoom e = omega arith
coded_number BadSheet e = omega arith

some_number : (x : Refusal) → number x ≢ 0
some_number bad_world e = omega arith
some_number bad_step e = omega arith
some_number empty e = omega arith
some_number dead e = omega arith
some_number not_now e = omega arith
some_number not_yet e = omega arith
some_number worn e = omega arith
some_number no_room e = omega arith

-- a plan is that of a refusal, or of what is done
pub record Refuses {A : Type 0} (a : Answer A) (plan : Planned A) : Type 0 where
  pub why : Refusal
  pub is : a ≡ refused why
  pub numbered : plan.answer ≡ number why

record Does {A : Type 0} (a : Answer A) (plan : Planned A) : Type 0 where
  sendings : List Sending
  is : a ≡ does plan.next sendings plan.event
  out : (from : ℕ) → outgoing from sendings ≡ outgoing from plan.sendings

module _ {A : Type 0} (blank : A) where
  pub plan_refuses : (a : Answer A) (plan : Planned A) → plan ≡ planned blank a → plan.answer ≢ 0 → Refuses a plan
  unfolding planned
  plan_refuses (refused x) plan e n = record { why = x; is = refl; numbered = rw e }
  plan_refuses (does m ss ev) plan e n = absurd (n (rw e))

  plan_does : (a : Answer A) (plan : Planned A) → plan ≡ planned blank a → Few a → plan.answer ≡ 0 → Does a plan
  unfolding planned Few
  plan_does (refused x) plan e f z = absurd (some_number x (rw e at z))
  plan_does (does m ss ev) plan e f z = rw e (record { sendings = ss; is = refl; out = λ from. sym (bounded_out from ss f) })

-- a refusal leaves the buffer as it was, and reports nothing
pub refused_kept : (x : Code-refusal) (why : Refusal) (b : List ℕ) → number_of x ≡ number why → done_of (Err x) b ≡ kept why b
unfolding done_of
refused_kept x why b e = ap (λ (n : ℕ). record { answer = n; report = no_report; buffer = b }) e

-- what is done, with what it reports
pub done_accepted : (r : Report) (e : rules-steps.Report) (b : List ℕ) → report_of r ≡ e → done_of (Ok r) b ≡ accepted e b
unfolding done_of
done_accepted r e b q = ap (λ (x : rules-steps.Report). record { answer = 0; report = x; buffer = b }) q

-- the answer that stands for what was done, or for a refusal, says the same
says : (r : Result Report Code-refusal) (b : List ℕ) → lent_of (answer_of r) b ≡ done_of r b
unfolding lent_of answer_of done_of report_of
says (Ok r) b = refl
says (Err x) b = refl

pub answered : (a : Given-answer) (r : Result Report Code-refusal) (b : List ℕ) → a ≡ answer_of r → lent_of a b ≡ done_of r b
answered a r b e = rw e (says r b)

-- ---- the world after it: the delivered place freed, then what is sent

module _ (v : World) (long : length v.places ≡ 256) (p from : ℕ) where
  abbrev u : World
  u = freed_at v p

  pub freed-sent : (ss : List Sending) (a b c : List ℕ) → a ≡ image v
      → ((w : World) → length w.places ≡ 256 → a ≡ image w → b ≡ image (freed_at w p))
      → ((w : World) → length w.places ≡ 256 → b ≡ image w → c ≡ image (with_places w (place_all (outgoing from ss) w.places)))
      → c ≡ image (with_places u (place_all (outgoing from ss) u.places))
  freed-sent ss a b c e f g = g u (freed_long v long p) (f v long e)

relay_freed : (w : World) (p s : ℕ) (r : Relay) → freed_at (with_relay w s r) p ≡ with_relay (freed_at w p) s r
unfolding freed_at freed
relay_freed w p s r = ⊎_elim (λ t. rw t) (λ t. rw t) (decided (ltb p 256))

desk-freed : (w : World) (p n : ℕ) (d : Desk) → freed_at (with_desk w n d) p ≡ with_desk (freed_at w p) n d
unfolding freed_at freed
desk-freed w p n d = ⊎_elim (λ t. rw t) (λ t. rw t) (decided (ltb p 256))

-- ---- NO ROOM for messages

-- what goes out finds room
abbrev pub rooms_for : List ℕ → ℕ → ℕ → List Sending → Bool
rooms_for b p from ss = leb (length (outgoing from ss)) (free_rows b 256 + (if ltb p 256 then 1 else 0))

module _ (b : List ℕ) (good : good_bytes b ≡ true) (p : ℕ) (d : delivered (world_at b) p ≡ true) where
  rooms : free_rows b 256 + (if ltb p 256 then 1 else 0) ≡ free_in (freed_at (world_at b) p).places
  rooms =
      let long = (shaped b good).places in
      ap (λ (l : List ℕ). free_rows l 256 + (if ltb p 256 then 1 else 0)) (sym (good_image b good))
      ∙ rw (free_rows_lem (world_at b) long) (sym (freed_rooms (world_at b) long p d))

  room_of : (from : ℕ) (ss : List Sending) → roomy (freed_at (world_at b) p) (outgoing from ss) ≡ rooms_for b p from ss
  unfolding roomy
  room_of from ss = rw rooms

-- ---- a relay, and a desk: `plan` is the one that the answer a asks for

module _ (b : List ℕ) (good : good_bytes b ≡ true) (p s k : ℕ) (a : Answer Relay) (plan : Planned Relay)
    (e : plan ≡ planned no_relay a) (few : Few a) (d : delivered (world_at b) p ≡ true) (z : plan.answer ≡ 0) where
  abbrev w : World
  w = world_at b

  abbrev made : Relay
  made = widened (relay_at w s) plan.next

  abbrev seats : Bool
  seats = leb (length made.generators) 8 && leb (length made.transfers) 8

  to_do : Does a plan
  to_do = plan_does no_relay a plan e few z

  pub relay_crowded : rooms_for b p s plan.sendings ≡ false → kept no_room b ≡ relay_left b k p s a
  unfolding relay_left relay_does
  relay_crowded r = rw (to_do.is, to_do.out s, room_of b good p d s plan.sendings ∙ r)

  pub relay_unseated : seats ≡ false → kept no_room b ≡ relay_left b k p s a
  unfolding relay_left relay_does
  relay_unseated r = rw (to_do.is, r, and-false (roomy (freed_at w p) (outgoing s to_do.sendings)))

  pub relay_done : rooms_for b p s plan.sendings ≡ true → seats ≡ true → (l : List ℕ)
      → l ≡ image (with_places (freed_at (with_relay w s made) p) (place_all (outgoing s plan.sendings) (freed_at (with_relay w s made) p).places))
      → accepted (reports plan.event s) l ≡ relay_left b k p s a
  unfolding relay_left relay_does
  relay_done r t l q = rw (to_do.is, to_do.out s, room_of b good p d s plan.sendings ∙ r, t, q, relay_freed w p s made)

-- the row of a desk, by its number among the twelve
pub desk_row : (n : ℕ) → row_of (8 + n) ≡ desk_begin n
desk_row n =
    let back : 8 + n - 8 ≡ n = omega arith in
    rw (le-ltb (8 + n) 8 (omega arith), back)

module _ (b : List ℕ) (good : good_bytes b ≡ true) (n : ℕ) where
  pub desk-put : n < 4 → (d : Desk) → placed b (desk_begin n) (desk_bytes d) ≡ image (with_desk (world_at b) n d)
  desk-put h d =
      let w = world_at b in
      ap (λ (l : List ℕ). placed l (desk_begin n) (desk_bytes d)) (sym (good_image b good))
      ∙ placed_fits (image w) (desk_bytes d) (desk_begin n) (omega (arith, length-desk d, length-image w))
      ∙ put-desk w (shaped b good) n d h

module _ (b : List ℕ) (good : good_bytes b ≡ true) (p n k : ℕ) (a : Answer Desk) (plan : Planned Desk)
    (e : plan ≡ planned no_desk a) (few : Few a) (d : delivered (world_at b) p ≡ true) (z : plan.answer ≡ 0) where
  abbrev v : World
  v = world_at b

  asked : Does a plan
  asked = plan_does no_desk a plan e few z

  pub desk_crowded : rooms_for b p (8 + n) plan.sendings ≡ false → kept no_room b ≡ desk_left b k p n a
  unfolding desk_left desk_does
  desk_crowded r = rw (asked.is, asked.out (8 + n), room_of b good p d (8 + n) plan.sendings ∙ r)

  pub desk-done : rooms_for b p (8 + n) plan.sendings ≡ true → (l : List ℕ)
      → let u = freed_at (with_desk v n plan.next) p in l ≡ image (with_places u (place_all (outgoing (8 + n) plan.sendings) u.places))
      → accepted (reports plan.event n) l ≡ desk_left b k p n a
  unfolding desk_left desk_does
  desk-done r l q = rw (asked.is, asked.out (8 + n), room_of b good p d (8 + n) plan.sendings ∙ r, q, desk-freed v p n plan.next)

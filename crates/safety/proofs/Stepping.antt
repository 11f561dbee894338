-- ONE STEP: from a world tied to a sound log, every accepted step gives a world tied to a sound log that has grown by the step's entries.
-- Assumes nothing.
use Rattle.std.specs.Prelude.{if◌then◌else◌}
use mathlib.Core.Path.{◌≡◌, refl, subst, ap}
use mathlib.Core.Bool.{Bool, true, false, ◌&&◌, and-eq-true_iff}
use mathlib.Core.List.{[], ◌∷◌}
use Prim.Native.Nat.{ℕ, suc, ◌+◌, ◌-◌, ◌<◌, ◌≤◌}
use native.Mathlib.Omega.{arith}
use native.Mathlib.Decide.{dec_lt}
use lib.Dec.{eqb, ltb}
use lib.ListN.{get_or-eq_default}
use borrow.Author.Tests.{ltb-true, ltb-false}
use Rattle.views.proofs.Truth.{contrary, cases}
use Rattle.rules.specs.Stamps.{Value, Pair, zero_pair, is_value}
use Rattle.rules.specs.Messages.{Message, outgoing, Event, nothing, Answer, refused, does}
use Rattle.rules.specs.State.{Place, free, waiting, World, crashed_relay, crashed_desk, no_desk, relay_at, desk_at, place_at}
use Rattle.rules.specs.declared.Desk.{Desk}
use Rattle.rules.specs.declared.Phase.{Phase}
use Rattle.rules.specs.declared.Phase.TheVariants.{Read1, Write1}
use Rattle.rules.specs.declared.Step.{Step}
use Rattle.rules.specs.Sending.{place_all}
use Rattle.rules.specs.Desks.{is_idle, full, begins, read_asked, write_asked}
use Rattle.rules.specs.Steps.{Act, join, leave, timer, read, write, deliver, drop, crash, bad, is, told, Outcome, roomy, desk_does, alive_in, if_alive, freed, delivers, delivery, dropping, crashing, acts, stepped}
use Rattle.safety.proofs.Setting.{Setting}
use Rattle.safety.proofs.Lists.{All, all_none, all_set, all_at}
use Rattle.safety.proofs.Log.{Task, reading, writing, Log, begin, Sound}
use Rattle.safety.proofs.Growth.{stay, add, since_join, since_map}
use Rattle.safety.proofs.Ties.{DeskTied, Backed, PlaceBacked, WorldTied}
use Rattle.safety.proofs.RelaySteps.{tied_crashed as relay_crashed, join-done, leave-done, timer-done}
use Rattle.safety.proofs.Serving.{relay_hears_lem}
use Rattle.safety.proofs.DeskSteps.{Says, says_read, says_write, Ending, goes_on, ends, DeskDone, tied_crashed as desk_crashed, read_done_lem, write_done_lem}
use Rattle.safety.proofs.DeskReplies.{desk-hears}
use Rattle.safety.proofs.Deeds.{Begins, quiet, begun, Moves, with_relay_lem, with_desk_lem, relay_does_lem, desk-does}

-- ---- READ and WRITE: they end nothing, so all they do comes after the begin

abbrev Silent : Answer Desk → Type 0
Silent (refused x) = Unit {0}
Silent (does d ss e) = e ≡ nothing

begins_silent : (d : Desk) (p : Phase) (v : ℕ) (x : Pair) → Silent (begins d p v x)
unfolding begins
begins_silent d p v x = cases Silent (full d.tries) (λ e. tt) (λ e. refl)

read_silent : (d : Desk) → Silent (read_asked d)
unfolding read_asked
read_silent d = cases Silent (is_idle d.phase) (λ e. begins_silent d Read1 d.view zero_pair) (λ e. tt)

write_silent : (d : Desk) (x : Value) → Silent (write_asked d x)
unfolding write_asked
write_silent d x = cases Silent (is_idle d.phase) (λ e. begins_silent d Write1 d.view (record { stamp = zero_pair.stamp; value = x })) (λ e. tt)

module _ {C : Setting} {l : Log} (a : Act) (w : World) (h : WorldTied C l w) where
  desk-begins : (c n t : ℕ) (b : Task) → n < 4 → Begins a n b → (x : Answer Desk) → Silent x → DeskDone C (begin n t b ∷ l) n x
      → Moves C l a (desk_does w c n x)
  unfolding desk_does
  desk-begins c n t b i f (refused z) s g = tt
  desk-begins c n t b i f (does d ss e) s g =
      cases (Moves C l a) (roomy w (outgoing (8 + n) ss))
      (λ _. rw s (record {
        log = g.mid;
        sound = subst (λ (k : Log). Sound C k) (last g.ending s) g.sound;
        tied = with_desk_lem w h n d ss i (since_join (add {e = begin n t b} refl stay) (since_map (λ e b. b.0) g.quiet))
            (subst (λ (k : Log). DeskTied k n d) (last g.ending s) g.tied)
            (subst (λ (k : Log). All (Rattle.safety.proofs.Ties.SendingBacked k (8 + n)) ss) (last g.ending s) g.sent);
        deed = begun n t b i (since_map (λ e b. b.1) g.quiet) f (λ j ts. refl) refl;
      })) (λ _. tt)
    where
      never : {a : Task} {e : Event} {p : Pair} → Says a e p → e ≡ nothing → ⊥
      never says_read z = let y : ◌≡◌ {A = ℕ} 0 1 = cc in omega arith
      never says_write z = let y : ◌≡◌ {A = ℕ} 0 1 = cc in omega arith

      last : {e : Event} {m k : Log} → Ending n m e k → e ≡ nothing → k ≡ m
      last goes_on z = refl
      last (ends o u d x y v) z = absurd (never u z)

-- ---- who acts is in range

abbrev Fits : Act → Type 0
Fits (join s) = s < 8
Fits (leave s) = s < 8
Fits (timer s) = s < 8
Fits (read n) = n < 4
Fits (write n x) = n < 4
Fits (deliver p) = Unit {0}
Fits (drop p) = Unit {0}
Fits (crash who) = who < 12
Fits bad = Unit {0}

is_small : (k : Step) (kind ids : ℕ) → is k kind ids ≡ true → k.id < ids
is_small k kind ids e = ltb-true k.id ids ((and-eq-true_iff (ltb k.id ids) _).0 ((and-eq-true_iff (eqb k.kind kind) _).0 e).1).0

fits : (k : Step) → Fits (told k)
unfolding told
fits k =
    cases Fits (is k 1 8) (is_small k 1 8)
    (λ _. cases Fits (is k 2 8) (is_small k 2 8)
    (λ _. cases Fits (is k 3 8) (is_small k 3 8)
    (λ _. cases Fits (is k 4 4) (is_small k 4 4)
    (λ _. cases Fits (eqb k.kind 5 && (ltb k.id 4 && is_value k.value))
    (λ e. ltb-true k.id 4 ((and-eq-true_iff (ltb k.id 4) _).0 ((and-eq-true_iff (eqb k.kind 5) _).0 e).1).0)
    (λ _. cases Fits (is k 6 256) (λ e. tt)
    (λ _. cases Fits (is k 7 256) (λ e. tt)
    (λ _. cases Fits (is k 8 12) (is_small k 8 12) (λ _. tt))))))))

-- ---- the steps

module _ {C : Setting} {l : Log} (S : Sound C l) (w : World) (h : WorldTied C l w) where
  freed_tied : (p : ℕ) → WorldTied C l (freed w p)
  unfolding freed
  freed_tied p = record { eight = h.eight; four = h.four; relays = h.relays; desks = h.desks; places = all_set {P = PlaceBacked l} p free tt h.places }

  if_alive_lem : (a : Act) (who : ℕ) (o : Outcome) → (alive_in w who ≡ true → Moves C l a o) → Moves C l a (if_alive w who o)
  unfolding if_alive
  if_alive_lem a who o f = cases (Moves C l a) (alive_in w who) f (λ e. tt)

  -- a desk that is alive is one of the four
  alive-desk : (who : ℕ) → 8 ≤ who → alive_in w who ≡ true → who - 8 < 4
  alive-desk who g e = go (ltb who 8) refl e (dec_lt (who - 8) 4)
    where
      go : (b : Bool) → ltb who 8 ≡ b → (if b then (relay_at w who).alive else (desk_at w (who - 8)).alive) ≡ true → Dec (who - 8 < 4) → who - 8 < 4
      go b z e (yes i) = i
      go true z e (no i) = absurd (omega (arith, ltb-true who 8 z))
      go false z e (no i) = absurd (contrary e (ap (λ (d : Desk). d.alive) (get_or-eq_default w.desks no_desk {n = who - 8} (omega (arith, h.four)))))

  delivers-done : (p : ℕ) (m : Message) → Backed l m.from m.to m.body → alive_in w m.to ≡ true → Moves C l (deliver p) (delivers (freed w p) m)
  unfolding delivers freed
  delivers-done p m b e =
      cases (Moves C l (deliver p)) (ltb m.to 8)
      (λ i.
      let s = ltb-true m.to 8 i in
      relay_does_lem (deliver p) (freed w p) (freed_tied p) 1 m.to s (λ j ts. refl) _ (relay_hears_lem S (relay_at w m.to) (h.relays m.to s) m.from m.body b))
      (λ i.
      let g = ltb-false m.to 8 i in
      let n : ℕ = m.to - 8 in
      let s = alive-desk m.to g e in
      let z : m.to ≡ 8 + n = omega arith in
      desk-does (deliver p) (freed w p) (freed_tied p) 1 n s (λ j ts. refl) _
      (desk-hears S s (desk_at w n) (h.desks n s) m.from m.body (subst (λ (x : ℕ). Backed l m.from x m.body) z b)))

  delivery-done : (p : ℕ) (x : Place) → PlaceBacked l x → Moves C l (deliver p) (delivery w p x)
  unfolding delivery
  delivery-done p free b = tt
  delivery-done p (waiting m) b = if_alive_lem (deliver p) m.to (delivers (freed w p) m) (delivers-done p m b)

  dropping-done : (p : ℕ) (x : Place) → Moves C l (drop p) (dropping w p x)
  unfolding dropping
  dropping-done p free = tt
  dropping-done p (waiting m) = record { log = l; sound = S; tied = freed_tied p; deed = quiet stay (λ j ts. refl) (λ j ts. refl) refl }

  crashing-done : (who : ℕ) → who < 12 → Moves C l (crash who) (crashing w who)
  unfolding crashing place_all outgoing
  crashing-done who i =
      cases (Moves C l (crash who)) (ltb who 8)
      (λ e. record {
        log = l;
        sound = S;
        tied = with_relay_lem w h who (crashed_relay (relay_at w who)) [] (ltb-true who 8 e) stay (relay_crashed (h.relays who (ltb-true who 8 e))) all_none;
        deed = quiet stay (λ j ts. refl) (λ j ts. refl) refl;
      })
      (λ e.
      let s : who - 8 < 4 = omega (arith, ltb-false who 8 e) in
      record {
        log = l;
        sound = S;
        tied = with_desk_lem w h (who - 8) (crashed_desk (desk_at w (who - 8))) [] s stay (desk_crashed (h.desks (who - 8) s)) all_none;
        deed = quiet stay (λ j ts. refl) (λ j ts. refl) refl;
      })

  acts-done : (a : Act) → Fits a → Moves C l a (acts w a)
  unfolding acts
  acts-done (join s) i = if_alive_lem (join s) s _ (λ e. relay_does_lem (join s) w h 0 s i (λ j ts. refl) _ (join-done S (relay_at w s) i (h.relays s i)))
  acts-done (leave s) i = if_alive_lem (leave s) s _ (λ e. relay_does_lem (leave s) w h 0 s i (λ j ts. refl) _ (leave-done S (relay_at w s) i (h.relays s i)))
  acts-done (timer s) i = if_alive_lem (timer s) s _ (λ e. relay_does_lem (timer s) w h 0 s i (λ j ts. refl) _ (timer-done S (relay_at w s) (h.relays s i)))
  acts-done (read n) i =
      if_alive_lem (read n) (8 + n) _ (λ e. desk-begins (read n) w h 0 n (suc (desk_at w n).tries) reading i (λ j ts. refl) _ (read_silent (desk_at w n)) (read_done_lem S (desk_at w n) (h.desks n i) i))
  acts-done (write n x) i =
      if_alive_lem (write n x) (8 + n) _
      (λ e. desk-begins (write n x) w h 0 n (suc (desk_at w n).tries) (writing x) i (λ j ts. refl) _ (write_silent (desk_at w n) x) (write_done_lem S (desk_at w n) (h.desks n i) i x))
  acts-done (deliver p) i = delivery-done p (place_at w p) (all_at {P = PlaceBacked l} p free tt h.places)
  acts-done (drop p) i = dropping-done p (place_at w p)
  acts-done (crash who) i = if_alive_lem (crash who) who (crashing w who) (λ e. crashing-done who i)
  acts-done bad i = tt

  pub step-done : (k : Step) → Moves C l (told k) (stepped w k)
  unfolding stepped
  step-done k = acts-done (told k) (fits k)

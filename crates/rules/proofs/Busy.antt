-- "A desk never gives up an operation.": a desk that is not idle is not idle after any step, unless that step reports that its read or its write ended.
-- Assumes nothing.
use Rattle.std.specs.Prelude.{◌&&◌}
use mathlib.Core.Path.{◌≡◌, refl, sym, ◌∙◌}
use mathlib.Core.Logic.{◌⊎◌, inl, inr}
use mathlib.Core.Bool.{Bool, true, false}
use mathlib.Core.List.{List, [], ◌∷◌}
use Prim.Native.Nat.{ℕ, zero, suc, ◌+◌, ◌-◌, ◌<◌}
use native.Mathlib.Omega.{arith}
use lib.Dec.{eqb, leb, ltb}
use lib.ListN.{length, get_or, set}
use lib.Seq.{get_or-set_same, get_or-set_other}
use borrow.Author.Tests.{eqb-true, eqb-false}
use Rattle.views.proofs.Truth.{contrary, cases}
use Rattle.rules.specs.Sets.{reaches, inside}
use Rattle.rules.specs.Stamps.{Pair}
use Rattle.rules.specs.Messages.{Body, request, view, proposal, converged, install, state, get, put, view_reply, pair_reply, ack, Message, outgoing, Event, nothing, opened, read_done, write_done, Answer, refused, does}
use Rattle.rules.specs.State.{Desk, Phase, Idle, Read1, Read2, Write1, Write2, Relay, Place, free, waiting, World, crashed_desk, no_desk, desk_at, place_at, with_desk, with_places}
use Rattle.rules.specs.Sending.{place_all}
use Rattle.rules.specs.Desks.{is_idle, is_first, is_second, full, begins, read_asked, write_asked, current, view_came, notes_pair, notes_ack, takes_stamp, completes, counted, pair_came, ack_came, desk_hears}
use Rattle.rules.specs.Steps.{Step, told, Act, join, leave, timer, read, write, deliver, drop, crash, bad, Outcome, done, after, report, reports, roomy, relay_does, desk_does, alive_in, if_alive, freed, delivers, delivery, dropping, crashing, acts, stepped}

-- the event says that a read, or a write, ended
pub data Ends : Event → Type 0 where
  read_ends : (p : Pair) → Ends (read_done p)
  write_ends : (p : Pair) → Ends (write_done p)

abbrev pub Busy : Desk → Type 0
Busy d = is_idle d.phase ≡ false

-- ---- what a rule makes of a busy desk

abbrev Goes : Answer Desk → Type 0
Goes (refused x) = Unit
Goes (does d ss e) = Busy d ⊎ Ends e

begins_goes : (d : Desk) (ph : Phase) (v : ℕ) (p : Pair) → is_idle ph ≡ false → Goes (begins d ph v p)
unfolding begins
begins_goes d ph v p busy = cases Goes (full d.tries) (λ _. tt) (λ _. inl busy)

completes_goes : (n : ℕ) (d : Desk) (ph : Phase) → d.phase ≡ ph → Busy d → Goes (completes n d ph)
unfolding completes takes_stamp
completes_goes n d Idle e busy = inl busy
completes_goes n d Read1 e busy = cases Goes d.agreed (λ _. inr (read_ends _)) (λ _. begins_goes d Read2 _ _ refl)
completes_goes n d Read2 e busy = inr (read_ends _)
completes_goes n d Write1 e busy = cases Goes (full d.best.stamp.count) (λ _. tt) (λ _. begins_goes d Write2 _ _ refl)
completes_goes n d Write2 e busy = inr (write_ends _)

counted_goes : (n : ℕ) (d : Desk) → Busy d → Goes (counted n d)
unfolding counted
counted_goes n d busy = cases Goes (reaches d.view d.replied) (λ _. completes_goes n d d.phase refl busy) (λ _. inl busy)

hears_goes : (n : ℕ) (d : Desk) (from : ℕ) (b : Body) → Busy d → Goes (desk_hears n d from b)
unfolding desk_hears view_came pair_came ack_came notes_pair notes_ack
hears_goes n d from (view_reply try v) busy = cases Goes (current d from try && inside d.view v) (λ _. begins_goes d d.phase v d.holds busy)
    (λ _. inl busy)
hears_goes n d from (pair_reply try p) busy = cases Goes (current d from try && is_first d.phase) (λ _. counted_goes n (notes_pair d from p) busy)
    (λ _. inl busy)
hears_goes n d from (ack try) busy = cases Goes (current d from try && is_second d.phase) (λ _. counted_goes n (notes_ack d from) busy) (λ _. inl busy)
hears_goes n d from (request u c) busy = inl busy
hears_goes n d from (view v) busy = inl busy
hears_goes n d from (proposal v q) busy = inl busy
hears_goes n d from (converged v q) busy = inl busy
hears_goes n d from (install o w q) busy = inl busy
hears_goes n d from (state o w p u) busy = inl busy
hears_goes n d from (get try c) busy = inl busy
hears_goes n d from (put try c p) busy = inl busy

read_goes : (d : Desk) → Goes (read_asked d)
unfolding read_asked
read_goes d = cases Goes (is_idle d.phase) (λ _. begins_goes d Read1 _ _ refl) (λ _. tt)

write_goes : (d : Desk) (x : ℕ) → Goes (write_asked d x)
unfolding write_asked
write_goes d x = cases Goes (is_idle d.phase) (λ _. begins_goes d Write1 _ _ refl) (λ _. tt)

-- ---- what a step makes of the desk n

-- n is a desk of the world: there is no busy desk past the end
there : (ds : List Desk) (n : ℕ) → Busy (get_or ds n no_desk) → n < length ds
there [] n busy = absurd (contrary refl busy)
there (d ∷ ds) zero busy = omega arith
there (d ∷ ds) (suc n) busy = omega (arith, there ds n busy)

-- after the outcome o of a step of w the desk n is busy, or o reports that what it did ended
pub data GoesOn (w : World) (n : ℕ) (o : Outcome) : Type 0 where
  busy_still : Busy (desk_at (after w o) n) → GoesOn w n o
  ends_now : Ends (report o).event → (report o).who ≡ n → GoesOn w n o

module _ (w : World) (n : ℕ) (busy : Busy (desk_at w n)) where
  tells : (e : Event) (who : ℕ) → Ends e → (Ends (reports e who).event) × ((reports e who).who ≡ who)
  tells nothing who h = elim h [ ]
  tells (opened v) who h = elim h [ ]
  tells (read_done p) who h = (h, refl)
  tells (write_done p) who h = (h, refl)

  -- the desk d answers; f has the desks of w
  desk_goes : (f : World) (c d : ℕ) (a : Answer Desk) → f.desks ≡ w.desks → (d ≡ n → Goes a) → GoesOn w n (desk_does f c d a)
  unfolding desk_does
  desk_goes f c d (refused x) same g = busy_still busy
  desk_goes f c d (does next ss e) same g = cases (GoesOn w n) (roomy f (outgoing (8 + d) ss)) (λ _. go (eqb d n) refl) (λ _. busy_still busy)
    where
      o : Outcome
      o = done (with_places (with_desk f d next) (place_all (outgoing (8 + d) ss) f.places)) (reports e d) (length (outgoing (8 + d) ss)) c 0

      itself : d ≡ n → Busy next ⊎ Ends e → GoesOn w n o
      itself z (inl h) = busy_still (rw (same, z, get_or-set_same w.desks n next no_desk (there w.desks n busy)) h)
      itself z (inr h) = let t = tells e d h in ends_now t.0 (t.1 ∙ z)

      go : (b : Bool) → eqb d n ≡ b → GoesOn w n o
      go true q = let z = eqb-true d n q in itself z (g z)
      go false q = busy_still (rw (same, get_or-set_other w.desks d n next no_desk (λ z. eqb-false d n q (sym z))) busy)

  relay_goes : (f : World) (c s : ℕ) (a : Answer Relay) → f.desks ≡ w.desks → GoesOn w n (relay_does f c s a)
  unfolding relay_does
  relay_goes f c s (refused x) same = busy_still busy
  relay_goes f c s (does r ss e) same =
      let kept : Busy (get_or f.desks n no_desk) = rw same busy in
      cases (GoesOn w n) (roomy f (outgoing s ss) && (leb (length r.generators) 8 && leb (length r.transfers) 8)) (λ _. busy_still kept)
      (λ _. busy_still busy)

  alive_goes : (who : ℕ) (o : Outcome) → GoesOn w n o → GoesOn w n (if_alive w who o)
  unfolding if_alive
  alive_goes who o g = cases (GoesOn w n) (alive_in w who) (λ _. g) (λ _. busy_still busy)

  delivers_goes : (p : ℕ) (m : Message) → GoesOn w n (delivers (freed w p) m)
  unfolding delivers freed
  delivers_goes p m =
      cases (GoesOn w n) (ltb m.to 8) (λ _. relay_goes (freed w p) 1 m.to _ refl)
      (λ _. desk_goes (freed w p) 1 (m.to - 8) _ refl (λ z. hears_goes (m.to - 8) (desk_at w (m.to - 8)) m.from m.body (rw z busy)))

  delivery_goes : (p : ℕ) (x : Place) → GoesOn w n (delivery w p x)
  unfolding delivery
  delivery_goes p free = busy_still busy
  delivery_goes p (waiting m) = alive_goes m.to _ (delivers_goes p m)

  dropping_goes : (p : ℕ) (x : Place) → GoesOn w n (dropping w p x)
  unfolding dropping freed
  dropping_goes p free = busy_still busy
  dropping_goes p (waiting m) = busy_still busy

  crashing_goes : (who : ℕ) → GoesOn w n (crashing w who)
  unfolding crashing crashed_desk
  crashing_goes who = cases (GoesOn w n) (ltb who 8) (λ _. busy_still busy) (λ _. busy_still (go (eqb (who - 8) n) refl))
    where
      d : Desk
      d = crashed_desk (desk_at w (who - 8))

      go : (b : Bool) → eqb (who - 8) n ≡ b → Busy (get_or (set w.desks (who - 8) d) n no_desk)
      go true q = let z = eqb-true (who - 8) n q in rw (z, get_or-set_same w.desks n (crashed_desk (desk_at w n)) no_desk (there w.desks n busy)) busy
      go false q = rw (get_or-set_other w.desks (who - 8) n d no_desk (λ z. eqb-false (who - 8) n q (sym z))) busy

  acts_goes : (a : Act) → GoesOn w n (acts w a)
  unfolding acts
  acts_goes (join s) = alive_goes s _ (relay_goes w 0 s _ refl)
  acts_goes (leave s) = alive_goes s _ (relay_goes w 0 s _ refl)
  acts_goes (timer s) = alive_goes s _ (relay_goes w 0 s _ refl)
  acts_goes (read d) = alive_goes (8 + d) _ (desk_goes w 0 d _ refl (λ _. read_goes (desk_at w d)))
  acts_goes (write d x) = alive_goes (8 + d) _ (desk_goes w 0 d _ refl (λ _. write_goes (desk_at w d) x))
  acts_goes (deliver p) = delivery_goes p (place_at w p)
  acts_goes (drop p) = dropping_goes p (place_at w p)
  acts_goes (crash who) = alive_goes who _ (crashing_goes who)
  acts_goes bad = busy_still busy

  pub never_gives_up : (k : Step) → GoesOn w n (stepped w k)
  unfolding stepped
  never_gives_up k = acts_goes (told k)

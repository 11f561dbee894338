-- "sent is the sum of the others"; a step delivers or drops no more than one message. Assumes nothing.
use Rattle.std.specs.Prelude.{◌&&◌}
use mathlib.Core.Path.{◌≡◌, refl, ap}
use mathlib.Core.Bool.{true, and-eq-true_iff}
use mathlib.Core.List.{List, [], ◌∷◌}
use Prim.Native.Nat.{ℕ, zero, suc, ◌+◌, ◌-◌, ◌≤◌, ◌<◌}
use native.Mathlib.Omega.{arith}
use lib.Dec.{leb, ltb}
use lib.ListN.{length, get_or, set, replicate}
use borrow.Author.Tests.{leb-true}
use Rattle.views.proofs.Truth.{cases}
use Rattle.rules.specs.Messages.{Message, outgoing, Refusal, dead, no_room, Answer, refused, does}
use Rattle.rules.specs.State.{Desk, Relay, Place, free, waiting, World, place_at, start}
use Rattle.rules.specs.Sending.{place, place_all, free_in, waiting_in}
use Rattle.rules.specs.Steps.{drop, Step, Act, join, leave, timer, read, write, deliver, crash, bad, told, Report, Outcome, refusal, done, after, reports, roomy, relay_does, desk_does, alive_in, if_alive, freed, delivers, delivery, dropping, crashing, acts, stepped}
use Rattle.rules.specs.Runs.{outcomes, last_world, sent_by, delivered_by, dropped_by, sum}

-- ---- placing and freeing

place_waits : (m : Message) (ps : List Place) → 0 < free_in ps → waiting_in (place m ps) ≡ suc (waiting_in ps)
unfolding place free_in waiting_in
place_waits m [] h = absurd (omega arith)
place_waits m (free ∷ ps) h = refl
place_waits m (waiting x ∷ ps) h = ap suc (place_waits m ps h)

place_frees : (m : Message) (ps : List Place) → 0 < free_in ps → suc (free_in (place m ps)) ≡ free_in ps
unfolding place free_in
place_frees m [] h = absurd (omega arith)
place_frees m (free ∷ ps) h = refl
place_frees m (waiting x ∷ ps) h = place_frees m ps h

place-all : (ms : List Message) (ps : List Place) → length ms ≤ free_in ps → waiting_in (place_all ms ps) ≡ waiting_in ps + length ms
unfolding place_all
place-all [] ps h = omega arith
place-all (m ∷ ms) ps h =
    let p : 0 < free_in ps = omega arith in
    omega (arith, place_waits m ps p, place_frees m ps p, place-all ms (place m ps) (omega (arith, place_frees m ps p)))

free-less : (ps : List Place) (p : ℕ) (m : Message) → get_or ps p free ≡ waiting m → suc (waiting_in (set ps p free)) ≡ waiting_in ps
unfolding waiting_in
free-less [] p m e = let z : ◌≡◌ {A = ℕ} 0 1 = cc in absurd (omega arith)
free-less (free ∷ ps) zero m e = let z : ◌≡◌ {A = ℕ} 0 1 = cc in absurd (omega arith)
free-less (waiting x ∷ ps) zero m e = refl
free-less (free ∷ ps) (suc p) m e = free-less ps p m e
free-less (waiting x ∷ ps) (suc p) m e = ap suc (free-less ps p m e)

pub places-all : (ps : List Place) → free_in ps + waiting_in ps ≡ length ps
unfolding free_in waiting_in
places-all [] = refl
places-all (free ∷ ps) = omega (arith, places-all ps)
places-all (waiting m ∷ ps) = omega (arith, places-all ps)

-- ---- one step

abbrev waits : World → ℕ
waits w = waiting_in w.places

pub record Balanced (w : World) (o : Outcome) : Type 0 where
  pub even : waits (after w o) + delivered_by o + dropped_by o ≡ waits w + sent_by o
  pub one : delivered_by o + dropped_by o ≤ 1

refusal_even : (w : World) (x : Refusal) → Balanced w (refusal x)
refusal_even w x = record { even = omega arith; one = omega arith }

module _ (w f : World) (n : ℕ) (l : n ≤ 1) (e : waits f + n ≡ waits w) where
  sent_even : (ms : List Message) (g : World) (r : Report) → g.places ≡ place_all ms f.places → roomy f ms ≡ true → Balanced w (done g r (length ms) n 0)
  unfolding roomy
  sent_even ms g r p h = record { even = omega (arith, place-all ms f.places (leb-true _ _ h), ap waiting_in p); one = omega arith }

  relay_even : (s : ℕ) (a : Answer Relay) → Balanced w (relay_does f n s a)
  unfolding relay_does
  relay_even s (refused x) = refusal_even w x
  relay_even s (does r ss ev) =
      cases (Balanced w) (roomy f (outgoing s ss) && (leb (length r.generators) 8 && leb (length r.transfers) 8))
      (λ h. sent_even (outgoing s ss) _ (reports ev s) refl ((and-eq-true_iff (roomy f (outgoing s ss)) _).0 h).0) (λ _. refusal_even w no_room)

  desk_even : (d : ℕ) (a : Answer Desk) → Balanced w (desk_does f n d a)
  unfolding desk_does
  desk_even d (refused x) = refusal_even w x
  desk_even d (does next ss ev) =
      cases (Balanced w) (roomy f (outgoing (8 + d) ss)) (λ h. sent_even (outgoing (8 + d) ss) _ (reports ev d) refl h) (λ _. refusal_even w no_room)

alive_even : (w : World) (who : ℕ) (o : Outcome) → Balanced w o → Balanced w (if_alive w who o)
unfolding if_alive
alive_even w who o b = cases (Balanced w) (alive_in w who) (λ _. b) (λ _. refusal_even w dead)

module _ (w : World) (p : ℕ) where
  freed_waits : (m : Message) → place_at w p ≡ waiting m → waits (freed w p) + 1 ≡ waits w
  unfolding freed
  freed_waits m e = omega (arith, free-less w.places p m e)

  delivers_even : (m : Message) → place_at w p ≡ waiting m → Balanced w (delivers (freed w p) m)
  unfolding delivers
  delivers_even m e =
      cases (Balanced w) (ltb m.to 8)
      (λ _. relay_even w (freed w p) 1 (omega arith) (freed_waits m e) m.to _) (λ _. desk_even w (freed w p) 1 (omega arith) (freed_waits m e) (m.to - 8) _)

  delivery_even : (x : Place) → place_at w p ≡ x → Balanced w (delivery w p x)
  unfolding delivery
  delivery_even free e = refusal_even w _
  delivery_even (waiting m) e = alive_even w m.to _ (delivers_even m e)

  dropping_even : (x : Place) → place_at w p ≡ x → Balanced w (dropping w p x)
  unfolding dropping
  dropping_even free e = refusal_even w _
  dropping_even (waiting m) e = record { even = omega (arith, freed_waits m e); one = omega arith }

crashing_even : (w : World) (who : ℕ) → Balanced w (crashing w who)
unfolding crashing
crashing_even w who =
    cases (Balanced w) (ltb who 8) (λ _. record { even = omega arith; one = omega arith }) (λ _. record { even = omega arith; one = omega arith })

acts_even : (w : World) (a : Act) → Balanced w (acts w a)
unfolding acts
acts_even w (join s) = alive_even w s _ (relay_even w w 0 (omega arith) (omega arith) s _)
acts_even w (leave s) = alive_even w s _ (relay_even w w 0 (omega arith) (omega arith) s _)
acts_even w (timer s) = alive_even w s _ (relay_even w w 0 (omega arith) (omega arith) s _)
acts_even w (read n) = alive_even w (8 + n) _ (desk_even w w 0 (omega arith) (omega arith) n _)
acts_even w (write n x) = alive_even w (8 + n) _ (desk_even w w 0 (omega arith) (omega arith) n _)
acts_even w (deliver p) = delivery_even w p (place_at w p) refl
acts_even w (drop p) = dropping_even w p (place_at w p) refl
acts_even w (crash who) = alive_even w who _ (crashing_even w who)
acts_even w bad = refusal_even w _

pub step_even : (w : World) (k : Step) → Balanced w (stepped w k)
unfolding stepped
step_even w k = acts_even w (told k)

-- ---- a run

abbrev totals : World → List Step → (Outcome → ℕ) → ℕ
totals w ks f = sum f (outcomes w ks)

pub run_even : (w : World) (ks : List Step) → waits w + totals w ks sent_by ≡ totals w ks delivered_by + totals w ks dropped_by + waits (last_world w ks)
unfolding outcomes last_world sum
run_even w [] = omega arith
run_even w (k ∷ ks) = omega (arith, (step_even w k).even, run_even (after w (stepped w k)) ks)

-- of a run no more than its steps
pub run_few : (w : World) (ks : List Step) → totals w ks delivered_by + totals w ks dropped_by ≤ length ks
unfolding outcomes sum
run_few w [] = omega arith
run_few w (k ∷ ks) = omega (arith, (step_even w k).one, run_few (after w (stepped w k)) ks)

none-waiting : (n : ℕ) → waiting_in (replicate n free) ≡ 0
unfolding waiting_in
none-waiting zero = refl
none-waiting (suc n) = none-waiting n

-- "sent is the sum of the others"
pub sent-is-sum : (mask : ℕ) (ks : List Step) → totals (start mask) ks sent_by ≡ totals (start mask) ks delivered_by + totals (start mask) ks dropped_by + waits (last_world (start mask) ks)
unfolding start
sent-is-sum mask ks = omega (arith, run_even (start mask) ks, none-waiting 256)

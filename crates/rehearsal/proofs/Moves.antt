-- What a step delivers and drops: one, where it is accepted and is a DELIVER, or a DROP. Assumes nothing.
use Rattle.std.specs.Prelude.{if◌then◌else◌}
use mathlib.Core.Path.{◌≡◌, refl}
use mathlib.Core.Bool.{Bool, true, false, ◌&&◌, and-eq-true_iff}
use Prim.Native.Nat.{ℕ, ◌+◌, ◌-◌}
use lib.Dec.{eqb, leb, ltb}
use lib.ListN.{length}
use borrow.Author.Tests.{eqb-true}
use Rattle.views.proofs.Truth.{cases}
use Rattle.rules.specs.Messages.{Refusal, bad_world, bad_step, empty, dead, not_now, not_yet, worn, no_room, outgoing, refused, does}
use Rattle.rules.specs.Messages as messages
use Rattle.rules.specs.State.{Relay, Place, free, waiting, World, place_at}
use Rattle.rules.specs.declared.Desk.{Desk}
use Rattle.rules.specs.declared.Step.{Step}
use Rattle.rules.specs.Steps.{Act, is, told as tells, Report, Outcome, refusal, done, roomy, relay_does, desk_does, alive_in, if_alive, freed, delivers, delivery, dropping, crashing, acts, stepped}
use Rattle.rules.specs.Runs.{delivered_by, dropped_by, answer}

pub record Moves (o : Outcome) (d x : Bool) : Type 0 where
  pub delivered : delivered_by o ≡ (if eqb (answer o) 0 && d then 1 else 0)
  pub dropped : dropped_by o ≡ (if eqb (answer o) 0 && x then 1 else 0)

refusal_moves : (x : Refusal) (d y : Bool) → Moves (refusal x) d y
refusal_moves bad_world d y = record { delivered = refl; dropped = refl }
refusal_moves bad_step d y = record { delivered = refl; dropped = refl }
refusal_moves empty d y = record { delivered = refl; dropped = refl }
refusal_moves dead d y = record { delivered = refl; dropped = refl }
refusal_moves not_now d y = record { delivered = refl; dropped = refl }
refusal_moves not_yet d y = record { delivered = refl; dropped = refl }
refusal_moves worn d y = record { delivered = refl; dropped = refl }
refusal_moves no_room d y = record { delivered = refl; dropped = refl }

done_moves : (v : World) (r : Report) (n : ℕ) (d x : Bool) → Moves (done v r n (if d then 1 else 0) (if x then 1 else 0)) d x
done_moves v r n d x = record { delivered = refl; dropped = refl }

abbrev Quiet : Outcome → Type 0
Quiet o = Moves o false false

relay_moves : (w : World) (d : Bool) (s : ℕ) (a : messages.Answer Relay) → Moves (relay_does w (if d then 1 else 0) s a) d false
unfolding relay_does
relay_moves w d s (refused x) = refusal_moves x d false
relay_moves w d s (does r ss e) =
    cases (λ o. Moves o d false) (roomy w (outgoing s ss) && (leb (length r.generators) 8 && leb (length r.transfers) 8))
    (λ _. done_moves _ _ _ d false) (λ _. refusal_moves no_room d false)

desk_moves : (w : World) (d : Bool) (n : ℕ) (a : messages.Answer Desk) → Moves (desk_does w (if d then 1 else 0) n a) d false
unfolding desk_does
desk_moves w d n (refused x) = refusal_moves x d false
desk_moves w d n (does r ss e) = cases (λ o. Moves o d false) (roomy w (outgoing (8 + n) ss)) (λ _. done_moves _ _ _ d false) (λ _. refusal_moves no_room d false)

alive_moves : (w : World) (who : ℕ) (o : Outcome) (d x : Bool) → Moves o d x → Moves (if_alive w who o) d x
unfolding if_alive
alive_moves w who o d x h = cases (λ o. Moves o d x) (alive_in w who) (λ _. h) (λ _. refusal_moves dead d x)

delivery_moves : (w : World) (p : ℕ) (x : Place) → Moves (delivery w p x) true false
unfolding delivery delivers
delivery_moves w p free = refusal_moves empty true false
delivery_moves w p (waiting m) =
    alive_moves w m.to _ true false
    (cases (λ o. Moves o true false) (ltb m.to 8) (λ _. relay_moves (freed w p) true m.to _) (λ _. desk_moves (freed w p) true (m.to - 8) _))

dropping_moves : (w : World) (p : ℕ) (x : Place) → Moves (dropping w p x) false true
unfolding dropping
dropping_moves w p free = refusal_moves empty false true
dropping_moves w p (waiting m) = done_moves _ _ _ false true

crashing_moves : (w : World) (who : ℕ) → Quiet (crashing w who)
unfolding crashing
crashing_moves w who = cases Quiet (ltb who 8) (λ _. done_moves _ _ _ false false) (λ _. done_moves _ _ _ false false)

module _ (w : World) (k : Step) where
  abbrev Told : Act → Type 0
  Told a = Moves (acts w a) (eqb k.kind 6) (eqb k.kind 7)

  kind_of : (kind ids : ℕ) → is k kind ids ≡ true → k.kind ≡ kind
  kind_of kind ids e = eqb-true k.kind kind ((and-eq-true_iff (eqb k.kind kind) _).0 e).0

  pub step_moves : Moves (stepped w k) (eqb k.kind 6) (eqb k.kind 7)
  unfolding stepped tells acts
  step_moves =
      cases Told (is k 1 8) (λ e. rw (kind_of 1 8 e) (alive_moves w k.id _ false false (relay_moves w false k.id _))) (λ _.
      cases Told (is k 2 8) (λ e. rw (kind_of 2 8 e) (alive_moves w k.id _ false false (relay_moves w false k.id _))) (λ _.
      cases Told (is k 3 8) (λ e. rw (kind_of 3 8 e) (alive_moves w k.id _ false false (relay_moves w false k.id _))) (λ _.
      cases Told (is k 4 4) (λ e. rw (kind_of 4 4 e) (alive_moves w (8 + k.id) _ false false (desk_moves w false k.id _))) (λ _.
      cases Told (eqb k.kind 5 && (ltb k.id 4 && ltb k.value 4294967296))
      (λ e. rw (eqb-true k.kind 5 ((and-eq-true_iff (eqb k.kind 5) _).0 e).0) (alive_moves w (8 + k.id) _ false false (desk_moves w false k.id _))) (λ _.
      cases Told (is k 6 256) (λ e. rw (kind_of 6 256 e) (delivery_moves w k.id (place_at w k.id))) (λ _.
      cases Told (is k 7 256) (λ e. rw (kind_of 7 256 e) (dropping_moves w k.id (place_at w k.id))) (λ _.
      cases Told (is k 8 12) (λ e. rw (kind_of 8 12 e) (alive_moves w k.id _ false false (crashing_moves w k.id))) (λ _.
      refusal_moves bad_step (eqb k.kind 6) (eqb k.kind 7)))))))))

-- A relay or a desk sends no more in a step than a plan has room for: what goes out is the copies of what the plan says. Assumes nothing.
use Rattle.std.specs.Prelude.{if◌then◌else◌}
use mathlib.Core.Path.{◌≡◌, refl, ap}
use mathlib.Core.Bool.{◌&&◌}
use mathlib.Core.List.{List, [], ◌∷◌, ◌++◌}
use Prim.Native.Nat.{ℕ, zero, suc, ◌≤◌}
use native.Mathlib.Nat.{le_of_suc-le-suc}
use native.Mathlib.Omega.{arith}
use lib.Dec.{eqb, lit≤}
use lib.ListN.{length}
use Rattle.views.proofs.Truth.{cases}
use Rattle.rules.specs.Sets.{those, inside, reaches}
use Rattle.rules.specs.Stamps.{Pair}
use Rattle.rules.specs.Messages.{Body, request, view, proposal, converged, install, state, get, put, view_reply, pair_reply, ack, Sending, Message, copies, outgoing, Event, Refusal, Answer, refused, does}
use Rattle.rules.specs.State.{Relay}
use Rattle.rules.specs.declared.Desk.{Desk}
use Rattle.rules.specs.declared.Phase.{Phase}
use Rattle.rules.specs.declared.Phase.TheVariants.{Idle, Read1, Read2, Write1, Write2}
use Rattle.rules.specs.Relays.{relay_hears}
use Rattle.rules.specs.Desks.{is_idle, is_first, is_second, full, begins, read_asked, write_asked, current, view_came, notes_pair, notes_ack, takes_stamp, completes, counted, pair_came, ack_came, desk_hears}
use Rattle.state.specs.Plans.{no_sending, most, padded, bounded}
use Rattle.locality.specs.Narrow.{Move, widens}
use Rattle.locality.specs.Asked.{Few, relay_asked, desk_asked}
use Rattle.locality.proofs.Wide.{hears_wide, asked_wide}
use Rattle.locality.proofs.Local.{LocalAnswer, hears_local, asked_local}

-- ---- what goes out

module _ (from : ℕ) where
  none_copied : copies from no_sending ≡ []
  unfolding copies those
  none_copied = refl

  padded_out : (n : ℕ) (ss : List Sending) → length ss ≤ n → outgoing from (padded n no_sending ss) ≡ outgoing from ss
  unfolding outgoing padded
  padded_out zero [] h = refl
  padded_out zero (s ∷ ss) h = absurd (omega arith)
  padded_out (suc n) [] h = rw none_copied (padded_out n [] (omega arith))
  padded_out (suc n) (s ∷ ss) h = ap (λ (ms : List Message). copies from s ++ ms) (padded_out n ss (le_of_suc-le-suc h))

  pub bounded_out : (ss : List Sending) → length ss ≤ most → outgoing from (bounded ss) ≡ outgoing from ss
  bounded_out ss h = padded_out most ss h

-- ---- an answer that sends no more

few_does : {A : Type 0} (a : A) (ss : List Sending) (e : Event) → length ss ≤ most → Few (does a ss e)
unfolding Few
few_does a ss e h = h

-- ---- relays

few_wide : (r : Relay) (x v : ℕ) (m : Move) (a b : Answer Relay) → a ≡ widens r b → LocalAnswer x v m most b → Few a
unfolding LocalAnswer Few
few_wide r x v m a (refused y) e h = rw e tt
few_wide r x v m a (does n ss y) e h = rw e h.few

module _ (s : ℕ) (r : Relay) where
  pub hears_few : (from : ℕ) (b : Body) → Few (relay_hears s r from b)
  hears_few from b = few_wide r _ _ _ _ _ (hears_wide s r from b) (hears_local r s from b)

  pub asked_few : (kind : ℕ) → Few (relay_asked kind s r)
  asked_few kind = few_wide r _ _ _ _ _ (asked_wide kind s r) (asked_local r kind s)

-- ---- desks

refuses_few : (x : Refusal) → Few {A = Desk} (refused x)
unfolding Few
refuses_few x = tt

begins_few : (d : Desk) (ph : Phase) (v : ℕ) (p : Pair) → Few (begins d ph v p)
unfolding begins
begins_few d ph v p = cases Few (full d.tries) (λ _. refuses_few _) (λ _. few_does _ _ _ (lit≤ tt))

idle_few : (d : Desk) (ph : Phase) (v : ℕ) (p : Pair) (x : Refusal) → Few (if is_idle d.phase then begins d ph v p else refused x)
idle_few d ph v p x = cases Few (is_idle d.phase) (λ _. begins_few d ph v p) (λ _. refuses_few x)

pub desk_asked_few : (kind x : ℕ) (d : Desk) → Few (desk_asked kind x d)
unfolding desk_asked read_asked write_asked
desk_asked_few kind x d = cases Few (eqb kind 5) (λ _. idle_few d _ _ _ _) (λ _. idle_few d _ _ _ _)

quiet_few : (d : Desk) (e : Event) → Few (does d [] e)
quiet_few d e = few_does d [] e (lit≤ tt)

module _ (n : ℕ) (d : Desk) where
  completes_few : (ph : Phase) → Few (completes n d ph)
  unfolding completes takes_stamp
  completes_few Idle = quiet_few d _
  completes_few Read1 = cases Few d.agreed (λ _. quiet_few _ _) (λ _. begins_few d _ _ _)
  completes_few Read2 = quiet_few _ _
  completes_few Write1 = cases Few (full d.best.stamp.count) (λ _. refuses_few _) (λ _. begins_few d _ _ _)
  completes_few Write2 = quiet_few _ _

  counted_few : Few (counted n d)
  unfolding counted
  counted_few = cases Few (reaches d.view d.replied) (λ _. completes_few d.phase) (λ _. quiet_few d _)

pub desk_few : (n : ℕ) (d : Desk) (from : ℕ) (b : Body) → Few (desk_hears n d from b)
unfolding desk_hears view_came pair_came ack_came
desk_few n d from (view_reply try v) = cases Few (current d from try && inside d.view v) (λ _. begins_few d _ _ _) (λ _. quiet_few d _)
desk_few n d from (pair_reply try p) = cases Few (current d from try && is_first d.phase) (λ _. counted_few n (notes_pair d from p)) (λ _. quiet_few d _)
desk_few n d from (ack try) = cases Few (current d from try && is_second d.phase) (λ _. counted_few n (notes_ack d from)) (λ _. quiet_few d _)
desk_few n d from (request u c) = quiet_few d _
desk_few n d from (view v) = quiet_few d _
desk_few n d from (proposal v q) = quiet_few d _
desk_few n d from (converged v q) = quiet_few d _
desk_few n d from (install o w q) = quiet_few d _
desk_few n d from (state o w p u) = quiet_few d _
desk_few n d from (get try c) = quiet_few d _
desk_few n d from (put try c p) = quiet_few d _

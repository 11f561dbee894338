-- What follows for those who look at a run: a relay hands on state only after it has entered, a reply of another try is never counted, a proposal that has
-- grown is never dropped, and the views that relays enter form one chain, at all times of a run. Assumes nothing.
use Rattle.std.specs.Prelude.{◌&&◌}
use mathlib.Core.Path.{◌≡◌, refl, subst, ap, ◌∙◌}
use mathlib.Core.Logic.{◌≢◌, ◌⊎◌, inl, inr, ⊎_elim}
use mathlib.Core.Bool.{true, false, not, and-false}
use mathlib.Core.List.Memᴰ
use mathlib.Core.List.{List, [], ◌∷◌, ◌++◌}
use Prim.Native.Nat.{ℕ, ◌<◌}
use native.Mathlib.Omega.{arith}
use lib.Dec.{eqb}
use lib.Bits.{bit_or}
use borrow.Author.Tests.{eqb-true, eq-eqb, ne_eqb, not-false}
use lib.ListN.{get_or}
use Rattle.views.specs.View.{clash_of, inside_of}
use Rattle.views.specs.Chain.{plus_of, some, has_of, conflict_of, most_of, union_of, heard_of}
use Rattle.views.proofs.Truth.{cases, decided, either_true, true_left}
use Rattle.views.proofs.Sets.{within_refl, within_trans, within_or_right, within_test, Inside, inside_fact, inside_lt}
use Rattle.views.proofs.Among.{some-plus, lacks_fact, lacks_union_left}
use Rattle.views.proofs.Nested.{above_fact, most-within}
use Rattle.rules.specs.Sets.{member, within, above, has, lacks, same}
use Rattle.rules.specs.Stamps.{Value, Pair}
use Rattle.rules.specs.Messages.{Body, Message, state as state_says, proposal, view_reply, pair_reply, ack, Sending, to_members, quietly}
use Rattle.rules.specs.State.{Place, free, waiting, place_at, Generator, Relay, World, start, relay_at}
use Rattle.rules.specs.declared.Desk.{Desk}
use Rattle.rules.specs.declared.Step.{Step}
use Rattle.rules.specs.Generators.{Turn, agree, hears, settles, proposal_heard}
use Rattle.rules.specs.Relays.{early, handed}
use Rattle.rules.specs.Desks.{is_idle, current, view_came, pair_came, ack_came, desk_hears}
use Rattle.rules.specs.Steps.{after, stepped}
use Rattle.rules.specs.Runs.{last_world}
use Rattle.rules.specs.Demand3.{◌∈◌}
use Rattle.safety.proofs.Setting.{Setting, setting}
use Rattle.safety.proofs.Log.{Entry, Log, ◌∋◌, by_enter, by_reply, Has, has_start, has_shown, Sound}
use Rattle.safety.proofs.Past.{back, sound-past, why}
use Rattle.safety.proofs.Agreement.{history, facts, Entered, from_start, by_relay, active-entered}
use Rattle.safety.proofs.Chain.{start_least}
use Rattle.safety.proofs.Stay.{comparable}
use Rattle.safety.proofs.Lists.{all_at}
use Rattle.safety.proofs.Ties.{Backed, PlaceBacked}
use Rattle.safety.proofs.Entering.{entered_there}
use Rattle.safety.proofs.Running.{run-start, run-steps, from-here}
use Rattle.safety.proofs.Carried.{nested_test}

-- the relay s after the steps ks
abbrev pub relay_after : ℕ → List Step → ℕ → Relay
relay_after mask ks s = relay_at (last_world (start mask) ks) s

-- a view that a relay has, having entered, is an entered one
module _ {C : Setting} {l : Log} (S : Sound C l) where
  has_entered : {k v s : ℕ} {y : Value} → Has C l k v s y → Entered C l v
  has_entered (has_start e a b) = from_start e
  has_entered (has_shown (by_enter m)) = by_relay m
  has_entered (has_shown (by_reply m)) = let x = why S m in active-entered S (back x.past) x.is.active

-- ---- A RELAY HANDS ON STATE ONLY AFTER IT HAS ENTERED. `handed` is what the rule Install sends of state, where it does not refuse (`early`).

pub hands_on_entered : (mask : ℕ) → mask < 256 → (ks : List Step) (s o w : ℕ) (x : Sending) → s < 8 → early s (relay_after mask ks s) o ≡ false
    → x ∈ handed s (relay_after mask ks s) o w
    → (relay_after mask ks s).entered ≡ true
hands_on_entered mask h ks s o w x i e m =
    let R = (run-steps (run-start mask h) ks).1 in
    ⊎_elim (λ b. entered_there R.sound (relay_after mask ks s) o w (R.tied.relays s i) b (there b)) (λ b. absurd (Memᴰ.not-nil (rw b at m))) (decided (member o s))
  where
    there : member o s ≡ true → ((relay_after mask ks s).view ≡ o) ⊎ Inside o (relay_after mask ks s).view
    there b = ⊎_elim (λ d. inl (eqb-true _ o d)) (λ d. inr (inside_fact o _ d)) (either_true _ _ (not-false _ (rw b at e)))

-- So in every world of a run, whoever has a state message on its way has entered.

entered-view : {C : Setting} {l : Log} {k v s : ℕ} {y : Value} → 0 < C.view → Sound C l → Has C l k v s y → v ≡ 0 → ⊥
entered-view {C} {l} {v = v} a S h z = go (start_least (history C l) (facts S) (has_entered S h))
  where
    go : (C.view ≡ v) ⊎ Inside C.view v → ⊥
    go (inl e) = omega arith
    go (inr i) = omega (arith, inside_lt i)

pub state_sender_entered : (mask : ℕ) → 0 < mask → mask < 256 → (ks : List Step) (i : ℕ) (m : Message) (o w : ℕ) (p : Pair) (u : ℕ)
    → place_at (last_world (start mask) ks) i ≡ waiting m → m.body ≡ state_says o w p u → (relay_after mask ks m.from).entered ≡ true
state_sender_entered mask a h ks i m o w p u e f =
    let R = (run-steps (run-start mask h) ks).1 in
    let b : PlaceBacked R.log (waiting m) = subst (λ (x : Place). PlaceBacked R.log x) e (all_at {P = PlaceBacked R.log} i free tt R.tied.places) in
    let c : Backed R.log m.from m.to (state_says o w p u) = subst (λ (x : Body). Backed R.log m.from m.to x) f b in
    let T = R.tied.relays m.from c.4 in
    let x = why R.sound c.1 in
    ⊎_elim (λ d. d) (λ d. absurd (entered-view a (sound-past R.sound (back x.past)) x.is.has (nowhere (T.outside d) (T.facts.handed _ _ _ _ _ c.1)))) (decided (relay_after mask ks m.from).entered)
  where
    nowhere : {x v : ℕ} → v ≡ 0 → (x ≡ v) ⊎ Inside x v → x ≡ 0
    nowhere z (inl e) = e ∙ z
    nowhere z (inr j) = absurd (omega (arith, inside_lt j))

-- ---- A REPLY OF ANOTHER TRY LEAVES THE DESK AS IT IS

module _ (n : ℕ) (d : Desk) (from try : ℕ) (other : try ≢ d.tries) where
  not_current : current d from try ≡ false
  not_current = rw (ne_eqb try d.tries other) (and-false (not (is_idle d.phase)))

  pub late_view_ignored : (v : ℕ) → desk_hears n d from (view_reply try v) ≡ quietly d
  unfolding desk_hears view_came
  late_view_ignored v = rw not_current

  pub late_pair_ignored : (p : Pair) → desk_hears n d from (pair_reply try p) ≡ quietly d
  unfolding desk_hears pair_came
  late_pair_ignored p = rw not_current

  pub late_ack_ignored : desk_hears n d from (ack try) ≡ quietly d
  unfolding desk_hears ack_came
  late_ack_ignored = rw not_current

-- ---- A PROPOSAL THAT HAS GROWN IS NEVER DROPPED: where q, kept for v, has a view that own lacks, every view of q, or one that includes it, is in the new own,
-- and the new own is sent. (It need not be another one than before: `grown_may_stay`.)

settles-own : (g : Generator) → (settles g).next.own ≡ g.own
unfolding settles
settles-own g = cases (λ (t : Turn). t.next.own ≡ g.own) (not (same g.own g.converged) && agree g.view g.proposals g.own) (λ _. refl) (λ _. refl)

module _ (v : ℕ) (g : Generator) (from : ℕ) (q : List ℕ) (k : above v q ≡ true) (l : lacks q g.own ≡ true) where
  own_is : (proposal_heard g from q).next.own ≡ (hears g from q).next.own
  unfolding proposal_heard
  own_is = settles-own (hears g from q).next

  heard_keeps : (x : ℕ) → has q x ≡ true → (y : ℕ) × (has (hears g from q).next.own y ≡ true) × (within x y ≡ true)
  unfolding hears heard_of
  heard_keeps x h =
      let top : ℕ = bit_or (most_of g.own) (most_of q) in
      rw l (cases (λ (p : List ℕ). (y : ℕ) × (has_of p y ≡ true) × (within x y ≡ true)) (conflict_of q g.own)
      (λ e. (
        top,
        some-plus (eqb top) top g.converged ∙ true_left (has_of g.converged top) (eq-eqb top top refl),
        within_test (within_trans (most-within (above_fact v q k) x h) (within_or_right (most_of g.own) (most_of q))),
      ))
      (λ e. (x, lacks_fact q (union_of q g.own) (lacks_union_left q g.own) x h, within_test (within_refl x))))

  pub grown_kept : (x : ℕ) → has q x ≡ true → (y : ℕ) × (has (proposal_heard g from q).next.own y ≡ true) × (within x y ≡ true)
  grown_kept x h = rw own_is (heard_keeps x h)

  heard_sends : (hears g from q).sendings ≡ to_members g.view (proposal g.view (hears g from q).next.own) ∷ []
  unfolding hears
  heard_sends = rw l

  -- it is the first thing that is sent
  pub grown_sent : (d : Sending) → get_or (proposal_heard g from q).sendings 0 d ≡ to_members g.view (proposal g.view (proposal_heard g from q).next.own)
  unfolding proposal_heard
  grown_sent d = rw (heard_sends, settles-own (hears g from q).next)

-- kept for view 1: own {3, 15} with converged {3} hears {5}, and stays; 15 includes 5
pub grown_may_stay : heard_of (3 ∷ 15 ∷ []) (3 ∷ []) (5 ∷ []) ≡ 3 ∷ 15 ∷ []
unfolding heard_of some plus_of union_of clash_of inside_of
grown_may_stay = refl

-- ---- THE VIEWS THAT RELAYS ENTER FORM ONE CHAIN: of the view of s after the steps ks, and of that of t after more of them, one includes the other

entered_later : {C : Setting} {l m : Log} {v : ℕ} → ((e : Entry) → l ∋ e → m ∋ e) → Entered C l v → Entered C m v
entered_later f (from_start e) = from_start e
entered_later f (by_relay h) = by_relay (f _ h)

steps-append : (w : World) (ks more : List Step) → last_world (last_world w ks) more ≡ last_world w (ks ++ more)
unfolding last_world
steps-append w [] more = refl
steps-append w (k ∷ ks) more = steps-append (after w (stepped w k)) ks more

pub one_chain : (mask : ℕ) → mask < 256 → (ks more : List Step) (s t : ℕ) → s < 8 → t < 8 → (relay_after mask ks s).entered ≡ true
    → (relay_after mask (ks ++ more) t).entered ≡ true
    → (within (relay_after mask ks s).view (relay_after mask (ks ++ more) t).view ≡ true) ⊎ (within (relay_after mask (ks ++ more) t).view (relay_after mask ks s).view ≡ true)
one_chain mask h ks more s t i j a b =
    let R = (run-steps (run-start mask h) ks).1 in
    let Q = (run-steps (from-here R) more).1 in
    let u : Entered (setting mask) R.log (relay_after mask ks s).view = has_entered R.sound ((R.tied.relays s i).facts.has a) in
    let e : relay_at (last_world (last_world (start mask) ks) more) t ≡ relay_after mask (ks ++ more) t = ap (λ (w : World). relay_at w t) (steps-append (start mask) ks more) in
    let x = has_entered Q.sound ((Q.tied.relays t j).facts.has (ap (λ (r : Relay). r.entered) e ∙ b)) in
    let v : Entered (setting mask) Q.log (relay_after mask (ks ++ more) t).view = subst (λ (r : Relay). Entered (setting mask) Q.log r.view) e x in
    nested_test (comparable Q.sound (entered_later Q.grown u) v)

-- Get and Put at a relay, and with them every message that comes to one: its entries are justified, and the relay stays tied. Assumes nothing.
use mathlib.Core.Path.{◌≡◌, refl, sym, subst, ap, ◌∙◌}
use mathlib.Core.Logic.{inl, ⊎_elim}
use mathlib.Core.Bool.{true, false, not, ◌||◌, and-eq-true_iff}
use mathlib.Core.List.Memᴰ
use mathlib.Core.List.{[], ◌∷◌}
use Prim.Native.Nat.{ℕ, ◌+◌, ◌≤◌}
use native.Mathlib.Omega.{arith}
use lib.Dec.{eqb}
use borrow.Author.Tests.{eqb-true, not-false}
use Rattle.views.proofs.Truth.{contrary, cases, either_true}
use Rattle.views.proofs.Digits.{bit_one}
use Rattle.rules.specs.Sets.{inside}
use Rattle.rules.specs.Stamps.{Pair}
use Rattle.rules.specs.Messages.{Body, request, view, proposal, converged, install, state as state_says, get as get_says, put as put_says, view_reply, pair_reply, ack, to_one, sends}
use Rattle.rules.specs.State.{Relay, with_holds}
use Rattle.rules.specs.Generators.{generator_for, proposal_heard, converged_heard}
use Rattle.rules.specs.Relays.{serves, get_heard, put_heard, relay_hears}
use Rattle.safety.proofs.Setting.{Setting}
use Rattle.safety.proofs.Lists.{All, all_none, all_more}
use Rattle.safety.proofs.Numbers.{num, Small, Greater, takes, stays, greatest_num}
use Rattle.safety.proofs.Log.{tag, Ask, get, put, Log, ◌∋◌, ask, reply, Answers, got, kept, stored, Sound}
use Rattle.safety.proofs.Past.{sound_more}
use Rattle.safety.proofs.Growth.{stay, add, one_more}
use Rattle.safety.proofs.RelayFacts.{relay_reply, reply_justified}
use Rattle.safety.proofs.Ties.{RelayTied, Backed, SendingBacked}
use Rattle.safety.proofs.Grown.{transfers_since, generators_more, sent_alike}
use Rattle.safety.proofs.Turns.{proposal-done, converged-done}
use Rattle.safety.proofs.RelaySteps.{RelayDone, at_generator_lem, sends-only, nothing-done, request-done, view-done}
use Rattle.safety.proofs.Entering.{install-done, state-done}

-- to one receiver
sent_one : (l : Log) (k from : ℕ) (b : Body) → Backed l k from b → All (SendingBacked l k) (to_one from b ∷ [])
sent_one l k from b h = all_more {x = to_one from b} (λ n e. subst (λ (i : ℕ). Backed l k i b) (sym (eqb-true n from (sym (bit_one n from) ∙ e))) h) all_none

module _ {C : Setting} {l : Log} {k : ℕ} (S : Sound C l) (r : Relay) (h : RelayTied C l k r) where
  -- an active relay serves its own view c, where c is not inside it
  own_view : (c : ℕ) → serves r c ≡ true → inside c r.view ≡ false → (r.active ≡ true) × (r.view ≡ c)
  own_view c e n =
      let a = (and-eq-true_iff r.active (eqb c r.view || inside c r.view)).0 e in
      (a.0, ⊎_elim (λ d. sym (eqb-true c r.view d)) (λ d. absurd (contrary d n)) (either_true (eqb c r.view) (inside c r.view) a.1))

  -- it answers the try t of the desk d, and then holds p
  module _ {d t m : ℕ} {x : Ask} (p : Pair) (a : r.active ≡ true) (q : l ∋ ask d t m r.view x) (up : num r.holds.stamp ≤ num p.stamp)
      (f : Answers C l k r.view (num p.stamp) p.value x) (s : Small p) where
    abbrev answering : Log
    answering = reply k d t r.view (num p.stamp) p.value ∷ l

    answered : (r' : Relay) (b : Body) → RelayTied C answering k r' → Backed answering k (8 + d) b → RelayDone C l k (sends r' (to_one (8 + d) b ∷ []))
    answered r' b g w = record {
      log = answering;
      since = add {e = reply k d t r.view (num p.stamp) p.value} (inl refl) stay;
      sound = sound_more _ S (reply_justified h.facts a q up f);
      tied = g;
      sent = sent_one answering k (8 + d) b w;
      tells = tt;
    }

    holds_tied : RelayTied C answering k (with_holds r p)
    unfolding with_holds
    holds_tied = record {
      facts = relay_reply h.facts up;
      outside = h.outside;
      inside = h.inside;
      small = s;
      view_small = h.view_small;
      updates = h.updates;
      generators = generators_more r.generators (λ v q c. omega (arith, ap tag c)) h.generators;
      transfers = transfers_since one_more h.transfers;
    }

  view-sent : (from t : ℕ) → RelayDone C l k (sends r (to_one from (view_reply t r.view) ∷ []))
  view-sent from t = sends-only S r _ h (sent_alike l k (to_one from (view_reply t r.view)) (λ n. tt))

  -- "If equal: Get replies stamp and value;"
  get-done : (from t c : ℕ) → Backed l from k (get_says t c) → RelayDone C l k (get_heard r from t c)
  unfolding get_heard with_holds
  get-done from t c b =
      cases (RelayDone C l k) (not (serves r c)) (λ e. tt)
      (λ e. cases (RelayDone C l k) (inside c r.view) (λ i. view-sent from t) (λ i. go (own_view c (not-false _ e) i)))
    where
      go : (r.active ≡ true) × (r.view ≡ c) → RelayDone C l k (sends r (to_one from (pair_reply t r.holds) ∷ []))
      go o =
          let q : l ∋ ask b.0 t b.1 r.view get = rw o.1 b.3 in
          let f : Answers C l k r.view (num r.holds.stamp) r.holds.value get = got (h.facts.has (h.inside o.0)) in
          rw b.2 (answered r.holds o.0 q (omega arith) f h.small r (pair_reply t r.holds) (holds_tied r.holds o.0 q (omega arith) f h.small)
          (b.0, r.view, refl, Memᴰ.head refl, h.small))

  -- "Put stores if its stamp is greater, and acknowledges either way."
  put-done : (from t c : ℕ) (p : Pair) → Backed l from k (put_says t c p) → RelayDone C l k (put_heard r from t c p)
  unfolding put_heard
  put-done from t c p b =
      cases (RelayDone C l k) (not (serves r c)) (λ e. tt)
      (λ e. cases (RelayDone C l k) (inside c r.view) (λ i. view-sent from t)
      (λ i. go (own_view c (not-false _ e) i) (greatest_num r.holds p h.small b.4)))
    where
      put-asked : (r.active ≡ true) × (r.view ≡ c) → l ∋ ask b.0 t b.1 r.view (put (num p.stamp) p.value)
      put-asked o = rw o.1 b.3

      acked : (x : Pair) {a : Ask} → (o : (r.active ≡ true) × (r.view ≡ c)) → l ∋ ask b.0 t b.1 r.view a → num r.holds.stamp ≤ num x.stamp
          → Answers C l k r.view (num x.stamp) x.value a → Small x → RelayDone C l k (sends (with_holds r x) (to_one from (ack t) ∷ []))
      acked x o q up f s =
          rw b.2 (answered x o.0 q up f s (with_holds r x) (ack t) (holds_tied x o.0 q up f s)
          (b.0, r.view, refl, num x.stamp, x.value, Memᴰ.head refl))

      go : {x : Pair} → (r.active ≡ true) × (r.view ≡ c) → Greater r.holds p x → RelayDone C l k (sends (with_holds r x) (to_one from (ack t) ∷ []))
      go o (takes g) = acked p o (put-asked o) (omega arith) stored b.4
      go o (stays g) = acked r.holds o (put-asked o) (omega arith) (kept (h.facts.has (h.inside o.0)) g) h.small

  -- ---- a message from `from` comes to the relay k

  pub relay_hears_lem : (from : ℕ) (b : Body) → Backed l from k b → RelayDone C l k (relay_hears k r from b)
  unfolding relay_hears
  relay_hears_lem from (request u c) b = request-done S r from u c b h
  relay_hears_lem from (view v) b = view-done S r v h
  relay_hears_lem from (proposal v q) b =
      at_generator_lem r (proposal_heard (generator_for v r.generators) from q) h (proposal-done S from (generator_for v r.generators) (h.generators v) b.0 b.1)
  relay_hears_lem from (converged v q) b =
      at_generator_lem r (converged_heard (generator_for v r.generators) from q) h (converged-done S from (generator_for v r.generators) (h.generators v) b.0 b.1)
  relay_hears_lem from (install o w q) b = install-done S r o w h q b
  relay_hears_lem from (state_says o w p u) b = state-done S r from o w p u h (b.0, b.1) b.2 b.3
  relay_hears_lem from (get_says t c) b = get-done from t c b
  relay_hears_lem from (put_says t c p) b = put-done from t c p b
  relay_hears_lem from (view_reply t v) b = nothing-done S r h
  relay_hears_lem from (pair_reply t p) b = nothing-done S r h
  relay_hears_lem from (ack t) b = nothing-done S r h

-- What a rule at one relay must do to the log, and the rules that only send or use a generator. Assumes nothing.
use mathlib.Core.Path.{◌≡◌, sym, ◌∙◌}
use mathlib.Core.Bool.{Bool, false, not, ◌&&◌, ◌||◌, and-eq-true_iff}
use mathlib.Core.List.{List, [], ◌∷◌}
use Prim.Native.Nat.{ℕ, ◌+◌, ◌<◌}
use native.Mathlib.Omega.{arith}
use native.Mathlib.Decide.{ℕ_discrete}
use lib.Dec.{eqb}
use lib.Bits.{or_lt}
use lib.Pow.{pow_mono}
use borrow.Author.Tests.{eqb-true, eqb-false, eq-eqb, ne_eqb, not-true}
use Rattle.views.proofs.Truth.{contrary, cases}
use Rattle.views.proofs.Sets.{inside_or, within_test}
use Rattle.views.proofs.Among.{has_first}
use Rattle.views.proofs.Nested.{above_none, above_more}
use Rattle.rules.specs.Sets.{joins, leaves, joined, member, within, inside}
use Rattle.rules.specs.Messages.{request, view, Sending, to_members, to_one, Event, nothing, opened, read_done, write_done, Answer, refused, does, quietly, sends}
use Rattle.rules.specs.State.{Generator, Transfer, Relay, with_known, with_pending, with_generators, crashed_relay}
use Rattle.rules.specs.Generators.{generator_for, put_generator, Turn, proposes}
use Rattle.rules.specs.Relays.{at_generator, join_asked, leave_asked, timer_rang, request_heard, learns}
use Rattle.safety.proofs.Setting.{Setting}
use Rattle.safety.proofs.Lists.{All, all_none}
use Rattle.safety.proofs.Bridge.{Kept}
use Rattle.safety.proofs.Log.{Log, Active, by_timer, Sound}
use Rattle.safety.proofs.Growth.{Since, stay, since_join, since_map, ByRelay}
use Rattle.safety.proofs.Ties.{GeneratorTied, TransferTied, RelayTied, SendingBacked}
use Rattle.safety.proofs.Grown.{sent_alike, transfers_since, facts_turning, generator_turning}
use Rattle.safety.proofs.Turns.{TurnDone, proposes-done}

-- what an event of the relay k says of the log
abbrev pub Tells : Setting → Log → ℕ → Event → Type 0
Tells C l k nothing = Unit {0}
Tells C l k (opened v) = Active C l k v
Tells C l k (read_done p) = ⊥
Tells C l k (write_done p) = ⊥

pub record RelayStep (C : Setting) (l : Log) (k : ℕ) (r : Relay) (ss : List Sending) (e : Event) : Type 0 where
  pub log : Log
  pub since : Since (ByRelay k) l log
  pub sound : Sound C log
  pub tied : RelayTied C log k r
  pub sent : All (SendingBacked log k) ss
  pub tells : Tells C log k e

abbrev pub RelayDone : Setting → Log → ℕ → Answer Relay → Type 0
RelayDone C l k (refused x) = Unit {0}
RelayDone C l k (does r ss e) = RelayStep C l k r ss e

-- entries made before the rule's others
pub after_entries : (C : Setting) {l m : Log} {k : ℕ} → Since (ByRelay k) l m → (a : Answer Relay) → RelayDone C m k a → RelayDone C l k a
after_entries C s (refused x) h = h
after_entries C s (does r ss e) h = record {
  log = h.log;
  since = since_join s h.since;
  sound = h.sound;
  tied = h.tied;
  sent = h.sent;
  tells = h.tells;
}

-- ---- parts of a relay that the log does not speak of

module _ {C : Setting} {l : Log} {k : ℕ} {r : Relay} (h : RelayTied C l k r) where
  pub tied_as : (alive : Bool) (known pending : ℕ) (ts : List Transfer) → pending < 65536 → All (TransferTied l) ts
      → RelayTied C l k (record {
        alive = alive;
        view = r.view;
        entered = r.entered;
        active = r.active;
        known = known;
        pending = pending;
        holds = r.holds;
        generators = r.generators;
        transfers = ts;
      })
  tied_as alive known pending ts p a = record {
    facts = h.facts;
    outside = h.outside;
    inside = h.inside;
    small = h.small;
    view_small = h.view_small;
    updates = p;
    generators = h.generators;
    transfers = a;
  }

  tied_known : (v : ℕ) → RelayTied C l k (with_known r v)
  unfolding with_known
  tied_known v = tied_as r.alive v r.pending r.transfers h.updates h.transfers

  tied_pending : (u : ℕ) → u < 65536 → RelayTied C l k (with_pending r u)
  unfolding with_pending
  tied_pending u s = tied_as r.alive r.known u r.transfers s h.transfers

  pub tied_crashed : RelayTied C l k (crashed_relay r)
  unfolding crashed_relay
  tied_crashed = tied_as false r.known r.pending r.transfers h.updates h.transfers

-- ---- a generator put back

put_same : (g : Generator) (gs : List Generator) (v : ℕ) → g.view ≡ v → generator_for v (put_generator g gs) ≡ g
unfolding generator_for put_generator
put_same g [] v e = rw (eq-eqb g.view v e)
put_same g (x ∷ gs) v e =
    cases (λ (hs : List Generator). generator_for v hs ≡ g) (eqb x.view g.view)
    (λ d. rw (eq-eqb g.view v e))
    (λ d. rw (ne_eqb x.view v (λ f. eqb-false x.view g.view d (f ∙ sym e))) (put_same g gs v e))

put_other : (g : Generator) (gs : List Generator) (v : ℕ) → (v ≡ g.view → ⊥) → generator_for v (put_generator g gs) ≡ generator_for v gs
unfolding generator_for put_generator
put_other g [] v n = rw (ne_eqb g.view v (λ e. n (sym e)))
put_other g (x ∷ gs) v n =
    cases (λ (hs : List Generator). generator_for v hs ≡ generator_for v (x ∷ gs)) (eqb x.view g.view)
    (λ d. rw (ne_eqb g.view v (λ e. n (sym e)), ne_eqb x.view v (λ e. n (sym e ∙ eqb-true x.view g.view d))))
    (λ d. rw (put_other g gs v n))

module _ {C : Setting} {l : Log} {k : ℕ} where
  -- a rule at the generator for v
  pub at_generator_lem : {v : ℕ} (r : Relay) (t : Turn) → RelayTied C l k r → TurnDone C l k v t → RelayDone C l k (at_generator r t)
  unfolding at_generator with_generators
  at_generator_lem {v} r t h d = record {
    log = d.log;
    since = since_map (λ e b. b.0) d.since;
    sound = d.sound;
    tied = record {
      facts = facts_turning k v d.since h.facts;
      outside = h.outside;
      inside = h.inside;
      small = h.small;
      view_small = h.view_small;
      updates = h.updates;
      generators = λ u. go u (ℕ_discrete u v);
      transfers = transfers_since d.since h.transfers;
    };
    sent = d.sent;
    tells = tt;
  }
    where
      go : (u : ℕ) → Dec (u ≡ v) → GeneratorTied d.log k u (generator_for u (put_generator t.next r.generators))
      go u (yes e) = rw (put_same t.next r.generators u (d.tied.view-is ∙ sym e), e) d.tied
      go u (no n) = rw (put_other t.next r.generators u (λ e. n (e ∙ d.tied.view-is))) (generator_turning k v u n d.since (h.generators u))

  -- ---- rules without an entry

  module _ (S : Sound C l) where
    pub sends-only : (r : Relay) (ss : List Sending) → RelayTied C l k r → All (SendingBacked l k) ss → RelayDone C l k (sends r ss)
    sends-only r ss h a = record { log = l; since = stay; sound = S; tied = h; sent = a; tells = tt }

    pub nothing-done : (r : Relay) → RelayTied C l k r → RelayDone C l k (quietly r)
    nothing-done r h = sends-only r [] h all_none

    pub join-done : (r : Relay) → k < 8 → RelayTied C l k r → RelayDone C l k (join_asked k r)
    unfolding join_asked
    join-done r s h =
        cases (RelayDone C l k) (r.entered || within (joins k) r.known) (λ e. tt)
        (λ e. sends-only r (to_members r.known (request (joins k) r.known) ∷ []) h (sent_alike l k (to_members r.known (request (joins k) r.known))
        (λ n. omega (arith, pow_mono {i = k} {j = 15} (omega arith)))))

    pub leave-done : (r : Relay) → k < 8 → RelayTied C l k r → RelayDone C l k (leave_asked k r)
    unfolding leave_asked
    leave-done r s h =
        cases (RelayDone C l k) (member r.view k)
        (λ e. sends-only r (to_members r.view (request (leaves k) r.view) ∷ []) h (sent_alike l k (to_members r.view (request (leaves k) r.view))
        (λ n. omega (arith, pow_mono {i = 8 + k} {j = 15} (omega arith))))) (λ e. tt)

    -- "it proposes the sequence of one view, its own joined with the pending updates"
    pub timer-done : (r : Relay) → RelayTied C l k r → RelayDone C l k (timer_rang r)
    unfolding timer_rang
    timer-done r h =
        cases (RelayDone C l k) (r.active && not (within r.pending r.view))
        (λ e.
        let a = (and-eq-true_iff r.active (not (within r.pending r.view))).0 e in
        at_generator_lem r (proposes (generator_for r.view r.generators) (joined r.view r.pending ∷ [])) h
        (proposes-done S (generator_for r.view r.generators) (h.generators r.view) (by_timer (h.facts.opened a.0)) (grown (not-true _ a.1))))
        (λ e. tt)
      where
        grown : within r.pending r.view ≡ false → Kept r.view (joined r.view r.pending ∷ [])
        grown e = record {
          rising = above_more (inside_or r.view r.pending (λ w. contrary (within_test w) e)) (or_lt 16 r.view r.pending h.view_small h.updates) above_none;
          view = joined r.view r.pending;
          has = has_first (joined r.view r.pending) [];
        }

    pub request-done : (r : Relay) (from u c : ℕ) → u < 65536 → RelayTied C l k r → RelayDone C l k (request_heard r from u c)
    unfolding request_heard
    request-done r from u c s h =
        cases (RelayDone C l k) (not r.entered) (λ e. nothing-done r h)
        (λ e. cases (RelayDone C l k) (eqb r.view c)
        (λ d. nothing-done _ (cases (RelayTied C l k) (within u r.view) (λ f. h) (λ f. tied_pending h _ (or_lt 16 r.pending u h.updates s))))
        (λ d. sends-only r (to_one from (view r.view) ∷ []) h (sent_alike l k (to_one from (view r.view)) (λ n. tt))))

    pub view-done : (r : Relay) (v : ℕ) → RelayTied C l k r → RelayDone C l k (quietly (learns r v))
    unfolding learns
    view-done r v h = nothing-done _ (cases (RelayTied C l k) (inside r.known v) (λ f. tied_known h v) (λ f. h))

-- The rules at a relay keep it good, and send well. Assumes nothing.
use Rattle.std.specs.Prelude.{◌&&◌}
use mathlib.Core.Path.{◌≡◌, refl, ap}
use mathlib.Core.Bool.{Bool, true, false, not}
use mathlib.Core.List.{List}
use Prim.Native.Nat.{ℕ, ◌<◌}
use lib.Dec.{eqb, leb}
use lib.ListN.{length}
use borrow.Author.Tests.{ltb-true, eqb-true, lt-ltb}
use Rattle.rules.specs.Sets.{member, above, none, all}
use Rattle.rules.specs.Messages.{Sending, Event, nothing, Refusal, Answer, refused, does}
use Rattle.rules.specs.State.{Generator, Transfer, Relay, with_generators}
use Rattle.rules.specs.Generators.{generator_for, put_generator, Turn, proposes, proposal_heard, converged_heard}
use Rattle.rules.specs.Relays.{at_generator}
use Rattle.rules.specs.WellFormed.{is_pair, implies, same_bool, distinct, good_generator, good_transfer, other_view, other_move, good_generators, good_transfers, good_relay}
use Rattle.rules.proofs.Hold.{hold_facts, hold_tests, all-put, distinct-put}
use Rattle.rules.proofs.Sends.{SendsWell, EventWell}
use Rattle.rules.proofs.Generators.{Gen, gen_tests, GoodTurn, looked_up, view_of, propose_good, proposal_good, converged_good}

-- ---- a good relay, by names; that its tables are no longer than 8 is left to the step

pub record Rel (s : ℕ) (r : Relay) : Type 0 where
  pub view : r.view < 65536
  pub known : r.known < 65536
  pub pending : r.pending < 65536
  pub holds : is_pair r.holds ≡ true
  pub active : implies r.active (r.entered && member r.view s) ≡ true
  pub entered : same_bool r.entered (not (eqb r.view 0)) ≡ true
  pub generators : all (good_generator s) r.generators ≡ true
  pub different : distinct other_view r.generators ≡ true
  pub transfers : all (good_transfer s) r.transfers ≡ true
  pub apart : distinct other_move r.transfers ≡ true

-- the same relay with other tables
pub rel_tables : {s : ℕ} {r : Relay} → Rel s r → (gs : List Generator) (ts : List Transfer)
    → all (good_generator s) gs ≡ true → distinct other_view gs ≡ true → all (good_transfer s) ts ≡ true → distinct other_move ts ≡ true
    → Rel s (record { alive = r.alive; view = r.view; entered = r.entered; active = r.active; known = r.known; pending = r.pending; holds = r.holds; generators = gs; transfers = ts })
rel_tables h gs ts g d t a = record {
  view = h.view;
  known = h.known;
  pending = h.pending;
  holds = h.holds;
  active = h.active;
  entered = h.entered;
  generators = g;
  different = d;
  transfers = t;
  apart = a;
}

pub rel_facts : (s : ℕ) (r : Relay) → good_relay s r ≡ true → Rel s r
unfolding good_relay good_generators good_transfers
rel_facts s r e =
    let h = hold_facts _ e in
    let g = hold_facts _ h.1.1.1.1.1.1.0 in
    let t = hold_facts _ h.1.1.1.1.1.1.1.0 in
    record {
      view = ltb-true _ _ h.0;
      known = ltb-true _ _ h.1.0;
      pending = ltb-true _ _ h.1.1.0;
      holds = h.1.1.1.0;
      active = h.1.1.1.1.0;
      entered = h.1.1.1.1.1.0;
      generators = g.1.0;
      different = g.1.1.0;
      transfers = t.1.0;
      apart = t.1.1.0;
    }

pub rel_tests : (s : ℕ) (r : Relay) → Rel s r → leb (length r.generators) 8 ≡ true → leb (length r.transfers) 8 ≡ true → good_relay s r ≡ true
unfolding good_relay good_generators good_transfers
rel_tests s r h lg lt =
    hold_tests _ (
      lt-ltb _ _ h.view,
      (
        lt-ltb _ _ h.known,
        (
          lt-ltb _ _ h.pending,
          (
            h.holds,
            (
              h.active,
              (
                h.entered,
                (hold_tests _ (lg, (h.generators, (h.different, tt))), (hold_tests _ (lt, (h.transfers, (h.apart, tt))), tt)),
              ),
            ),
          ),
        ),
      ),
    )

-- ---- what a rule at the relay s answers

unfoldable pub GoodAnswer : ℕ → Answer Relay → Type 0
GoodAnswer s (refused x) = Unit {0}
GoodAnswer s (does r ss e) = Rel s r × (SendsWell s ss × EventWell e)

pub refuses_well : (s : ℕ) (x : Refusal) → GoodAnswer s (refused x)
unfolding GoodAnswer
refuses_well s x = tt

pub tells_well : (s : ℕ) (r : Relay) (ss : List Sending) (e : Event) → Rel s r → SendsWell s ss → EventWell e → GoodAnswer s (does r ss e)
unfolding GoodAnswer
tells_well s r ss e h k t = (h, (k, t))

pub does_well : (s : ℕ) (r : Relay) (ss : List Sending) → Rel s r → SendsWell s ss → GoodAnswer s (does r ss nothing)
does_well s r ss h k = tells_well s r ss nothing h k tt

-- ---- a generator put back

same_view : Generator → Generator → Bool
same_view h g = eqb h.view g.view

good_put : (s : ℕ) (g : Generator) → good_generator s g ≡ true → (hs : List Generator) → all (good_generator s) hs ≡ true → all (good_generator s) (put_generator g hs) ≡ true
unfolding put_generator same_view
good_put s = all-put same_view put_generator (λ g. refl) (λ g h hs. refl) (good_generator s)

different_put : (g : Generator) (hs : List Generator) → distinct other_view hs ≡ true → distinct other_view (put_generator g hs) ≡ true
unfolding put_generator same_view
different_put = distinct-put same_view put_generator (λ g. refl) (λ g h hs. refl) other_view (λ g h e. ap not e) (λ g h hs e a. rw (eqb-true h.view g.view e) at a)

pub at_generator_lem : (s v : ℕ) (r : Relay) (t : Turn) → Rel s r → GoodTurn s v t → GoodAnswer s (at_generator r t)
unfolding at_generator with_generators
at_generator_lem s v r t h k =
    does_well s _ _
    (rel_tables h (put_generator t.next r.generators) r.transfers
    (good_put s t.next (gen_tests s t.next k.next) r.generators h.generators) (different_put t.next r.generators h.different)
    h.transfers h.apart)
    k.sendings

-- ---- Proposal, Converged

module _ (s : ℕ) (r : Relay) (h : Rel s r) (from v : ℕ) (q : List ℕ) (small : v < 65536) (m : member v s ≡ true) (f : member v from ≡ true) (a : above v q ≡ true) (n : none q ≡ false) where
  g : Gen s (generator_for v r.generators)
  g = looked_up s v r.generators small m h.generators

  pub proposal-kept : GoodAnswer s (at_generator r (proposal_heard (generator_for v r.generators) from q))
  proposal-kept =
      let e = view_of v r.generators in
      at_generator_lem s (generator_for v r.generators).view r _ h (proposal_good s (generator_for v r.generators) g from q (rw e f) (rw e a) n)

  pub converged-kept : GoodAnswer s (at_generator r (converged_heard (generator_for v r.generators) from q))
  converged-kept =
      let e = view_of v r.generators in
      at_generator_lem s (generator_for v r.generators).view r _ h (converged_good s (generator_for v r.generators) g from q (rw e f) (rw e a) n)

-- Propose q for v, where the relay is a member of v
pub propose_kept : (s : ℕ) (r : Relay) → Rel s r → (v : ℕ) (q : List ℕ) → v < 65536 → member v s ≡ true → above v q ≡ true → none q ≡ false
    → GoodAnswer s (at_generator r (proposes (generator_for v r.generators) q))
propose_kept s r h v q small m a n =
    let e = view_of v r.generators in
    at_generator_lem s (generator_for v r.generators).view r _ h (propose_good s (generator_for v r.generators) (looked_up s v r.generators small m h.generators) q (rw e a) n)

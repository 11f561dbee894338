-- The rules that move a relay to another view: Install, State and the entry test. Their entries are justified, and the relay stays tied.
-- Assumes nothing.
use mathlib.Core.Path.{◌≡◌, refl, sym, ap, ◌∙◌}
use mathlib.Core.Logic.{◌⊎◌, inl, inr, ⊎_elim}
use mathlib.Core.Bool.{Bool, true, false, not, ◌&&◌, false≢true, and-eq-true_iff}
use mathlib.Core.List.Memᴰ
use mathlib.Core.List.{List, [], ◌∷◌}
use Prim.Native.Nat.{ℕ, ◌^◌, ◌<◌}
use native.Mathlib.Omega.{arith}
use lib.Dec.{eqb}
use lib.Bits.{bit_or, or_lt}
use borrow.Author.Tests.{eqb-true, not-false}
use Rattle.views.specs.View.{reaches_of}
use Rattle.views.proofs.Truth.{contrary, cases, decided, either_true}
use Rattle.views.proofs.Sets.{Inside, inside_fact, inside_test, inside_lt, member_lt, member_not_empty}
use Rattle.views.proofs.Nested.{above_small}
use Rattle.rules.specs.Sets.{member, inside, none, reaches}
use Rattle.rules.specs.Stamps.{Pair}
use Rattle.rules.specs.Messages.{Sending, state as state_says, to_members, Answer, refused, does}
use Rattle.rules.specs.State.{Transfer, Relay, with_active, with_transfers}
use Rattle.rules.specs.Generators.{generator_for, proposes}
use Rattle.rules.specs.Relays.{at_generator, fresh_transfer, is_for, transfer_for, put_transfer, keeps, gathers, passes, moved, onward, enters, tested, early, stopped, handed, takes_install, sent_first, install_heard, state_heard}
use Rattle.safety.proofs.Setting.{Setting}
use Rattle.safety.proofs.Lists.{All, all_none, all_more, all_append, all-those}
use Rattle.safety.proofs.Sequences.{Single}
use Rattle.safety.proofs.Bridge.{in_has, kept_least, beyond_without, beyond_single, beyond_kept}
use Rattle.safety.proofs.Numbers.{num, Small, Greater, takes, stays, greatest_num, greatest_small}
use Rattle.safety.proofs.Log.{tag, Log, state, enter, active_enter, by_entry, Sound}
use Rattle.safety.proofs.Past.{sound_more}
use Rattle.safety.proofs.Growth.{Since, stay, add, one_more, ByRelay}
use Rattle.safety.proofs.RelayFacts.{relay_enter, relay_state, state_justified}
use Rattle.safety.proofs.Notes.{Notes, notes_none, note_greater, note_other, States, enter_justified}
use Rattle.safety.proofs.Ties.{Plan, TransferTied, RelayTied, SendingBacked}
use Rattle.safety.proofs.Grown.{plan_since, transfers_since, generators_more, sendings_since, sent_alike}
use Rattle.safety.proofs.Turns.{proposes-done}
use Rattle.safety.proofs.RelaySteps.{RelayDone, tied_as, after_entries, at_generator_lem, nothing-done}

-- ---- transfers

module _ {l : Log} where
  fresh_tied : (o w : ℕ) → TransferTied l (fresh_transfer o w)
  unfolding fresh_transfer
  fresh_tied o w = record { plan = inl refl; notes = notes_none; small = omega arith; updates = omega arith }

  for_tied : (o w : ℕ) {ts : List Transfer} → All (TransferTied l) ts → TransferTied l (transfer_for o w ts)
  unfolding transfer_for
  for_tied o w all_none = fresh_tied o w
  for_tied o w (all_more {x = t} h a) = cases (TransferTied l) (is_for o w t) (λ e. h) (λ e. for_tied o w a)

  put_tied : (t : Transfer) {ts : List Transfer} → TransferTied l t → All (TransferTied l) ts → All (TransferTied l) (put_transfer t ts)
  unfolding put_transfer
  put_tied t h all_none = all_more h all_none
  put_tied t h (all_more {x = u} k a) = cases (All (TransferTied l)) (is_for t.old t.new u) (λ e. all_more h a) (λ e. all_more k (put_tied t h a))

  -- "the transfer keeps q unless it has one already"
  keeps_tied : (t : Transfer) (q : List ℕ) → TransferTied l t → Plan l t.old t.new q → TransferTied l (keeps t q)
  unfolding keeps
  keeps_tied t q h p = record {
    plan = cases (λ (s : List ℕ). (s ≡ []) ⊎ Plan l t.old t.new s) (none t.sequence) (λ e. inr p) (λ e. h.plan);
    notes = h.notes;
    small = h.small;
    updates = h.updates;
  }

  -- "note sender, greatest stamp with its value, updates"
  gathers_tied : (t : Transfer) (from : ℕ) (p : Pair) (u : ℕ) → TransferTied l t → States l t.old t.new from (num p.stamp) p.value
      → Small p → u < 65536
      → TransferTied l (gathers t from p u)
  unfolding gathers
  gathers_tied t from p u h s i j = record {
    plan = h.plan;
    notes = go (greatest_num t.best p h.small i);
    small = greatest_small t.best p h.small i;
    updates = or_lt 16 t.gathered u h.updates j;
  }
    where
      go : {b : Pair} → Greater t.best p b → Notes (States l t.old t.new) (bit_or t.senders (2 ^ from)) (num b.stamp) b.value
      go (takes g) = note_greater h.notes s g
      go (stays g) = note_other h.notes s g

-- the transfer looked up is that of the pair
for_old : (o w : ℕ) (ts : List Transfer) → (transfer_for o w ts).old ≡ o
unfolding transfer_for fresh_transfer
for_old o w [] = refl
for_old o w (t ∷ ts) =
    cases (λ (x : Transfer). x.old ≡ o) (is_for o w t) (λ e. eqb-true t.old o ((and-eq-true_iff (eqb t.old o) (eqb t.new w)).0 e).0) (λ e. for_old o w ts)

for_new : (o w : ℕ) (ts : List Transfer) → (transfer_for o w ts).new ≡ w
unfolding transfer_for fresh_transfer
for_new o w [] = refl
for_new o w (t ∷ ts) =
    cases (λ (x : Transfer). x.new ≡ w) (is_for o w t) (λ e. eqb-true t.new w ((and-eq-true_iff (eqb t.old o) (eqb t.new w)).0 e).1) (λ e. for_new o w ts)

-- ---- the entry test

module _ {C : Setting} {l : Log} {k : ℕ} (S : Sound C l) where
  -- "Then stamp and value become the best received, .. view is w, entered; .. If q has views above w, propose those for w, not active; else active, event 1."
  module _ (r : Relay) (t : Transfer) (h : RelayTied C l k r) (d : TransferTied l t) (p : Plan l t.old t.new t.sequence)
      (i : Inside r.view t.new) (m : reaches_of t.old t.senders ≡ true) where
    abbrev entering : Log
    entering = enter k t.old t.new t.sequence (num t.best.stamp) t.best.value ∷ l

    entering_sound : Sound C entering
    entering_sound = sound_more _ S (enter_justified p.raised (kept_least p.kept p.least) m d.notes)

    entering_since : Since (ByRelay k) l entering
    entering_since = add {e = enter k t.old t.new t.sequence (num t.best.stamp) t.best.value} (inl refl) stay

    moved_tied : (active : Bool) → (active ≡ true → Single t.new t.sequence) → RelayTied C entering k (moved r t active)
    unfolding moved
    moved_tied active f = record {
      facts = relay_enter h.facts i f;
      outside = λ e. absurd (false≢true (sym e));
      inside = λ e. refl;
      small = d.small;
      view_small = above_small p.kept.rising t.new (in_has (kept_least p.kept p.least).has);
      updates = omega (arith, or_lt 16 r.pending t.gathered h.updates d.updates);
      generators = generators_more r.generators (λ v q c. omega (arith, ap tag c)) h.generators;
      transfers = all-those (λ u. inside t.new u.new) (transfers_since one_more h.transfers);
    }

    enters-done : RelayDone C l k (enters r t)
    unfolding enters moved
    enters-done =
        cases (RelayDone C l k) (none (onward t))
        (λ e.
        let one = beyond_single p.kept p.least e in
        record {
          log = entering;
          since = entering_since;
          sound = entering_sound;
          tied = moved_tied true (λ z. one);
          sent = all_none;
          tells = active_enter (Memᴰ.head refl) one;
        })
        (λ e.
        let now = moved_tied false (λ z. absurd (false≢true z)) in
        let proposing = proposes (generator_for t.new r.generators) (onward t) in
        let turn = proposes-done entering_sound (generator_for t.new r.generators) (now.generators t.new)
        (by_entry (Memᴰ.head refl) (beyond_without p.kept p.least)) (beyond_kept p.kept t.new e) in
        after_entries C entering_since (at_generator (moved r t false) proposing) (at_generator_lem (moved r t false) proposing now turn))

  -- "Entry test: install present and a quorum of o has sent state."
  tested-done : (r : Relay) (t : Transfer) → RelayTied C l k r → TransferTied l t → Inside r.view t.new → RelayDone C l k (tested r t)
  unfolding tested with_transfers
  tested-done r t h d i =
      cases (RelayDone C l k) (passes t)
      (λ e.
      let b = (and-eq-true_iff (not (none t.sequence)) (reaches t.old t.senders)).0 e in
      enters-done (with_transfers r (put_transfer t r.transfers)) t kept d (⊎_elim (λ z. absurd (contrary (rw z at b.0) refl)) (λ p. p) d.plan) i b.1)
      (λ e. nothing-done S _ kept)
    where
      kept : RelayTied C l k (with_transfers r (put_transfer t r.transfers))
      kept = tied_as h r.alive r.known r.pending (put_transfer t r.transfers) h.updates (put_tied t d h.transfers)

  -- "If its view is inside w and it is a member of w, the transfer keeps q unless it has one already; then the entry test."
  takes_done : (r : Relay) (o w : ℕ) (q : List ℕ) → RelayTied C l k r → Plan l o w q → RelayDone C l k (takes_install k r o w q)
  unfolding takes_install keeps
  takes_done r o w q h p =
      let t : Transfer = transfer_for o w r.transfers in
      cases (RelayDone C l k) (inside r.view w && member w k)
      (λ e.
      let i = inside_fact r.view w ((and-eq-true_iff (inside r.view w) (member w k)).0 e).0 in
      tested-done r (keeps t q) h (keeps_tied t q (for_tied o w h.transfers) (rw (for_old o w r.transfers, for_new o w r.transfers) p)) (rw (for_new o w r.transfers) i))
      (λ e. nothing-done S r h)

  -- State: "nothing unless the receiver's view is inside w. Else note sender, greatest stamp with its value, updates; then the entry test."
  pub state-done : (r : Relay) (from o w : ℕ) (p : Pair) (u : ℕ) → RelayTied C l k r → States l o w from (num p.stamp) p.value → Small p → u < 65536
      → RelayDone C l k (state_heard r from o w p u)
  unfolding state_heard gathers
  state-done r from o w p u h s a b =
      let t : Transfer = transfer_for o w r.transfers in
      cases (RelayDone C l k) (inside r.view w)
      (λ e. tested-done r (gathers t from p u) h (gathers_tied t from p u (for_tied o w h.transfers) (rw (for_old o w r.transfers, for_new o w r.transfers) s) a b)
      (rw (for_new o w r.transfers) (inside_fact r.view w e))) (λ e. nothing-done S r h)

-- ---- "Install(o, w, q)"

first-sent : (C : Setting) {l : Log} {k : ℕ} (ss : List Sending) (a : Answer Relay) → RelayDone C l k a → All (SendingBacked l k) ss
    → RelayDone C l k (sent_first ss a)
first-sent C ss (refused x) h b = h
first-sent C ss (does r later e) h b = record {
  log = h.log;
  since = h.since;
  sound = h.sound;
  tied = h.tied;
  sent = all_append (sendings_since h.since b) h.sent;
  tells = h.tells;
}

module _ {C : Setting} {l : Log} {k : ℕ} (S : Sound C l) (r : Relay) (o w : ℕ) (h : RelayTied C l k r) where
  -- a member of o whose view is o or beyond has entered
  pub entered_there : member o k ≡ true → (r.view ≡ o) ⊎ Inside o r.view → r.entered ≡ true
  entered_there m i = ⊎_elim (λ e. e) (λ e. absurd (nowhere (h.outside e) i)) (decided r.entered)
    where
      nowhere : r.view ≡ 0 → (r.view ≡ o) ⊎ Inside o r.view → ⊥
      nowhere z (inl e) = member_not_empty o k m (sym e ∙ z)
      nowhere z (inr j) = omega (arith, inside_lt j)

  abbrev handing : Log
  handing = state k r.view o w (num r.holds.stamp) r.holds.value ∷ l

  -- "A member of o, if its view is inside w, stops being active;"
  stopped_tied : member o k ≡ true → RelayTied C handing k (stopped k r o w)
  unfolding with_active
  stopped_tied m = rw m (cases (RelayTied C handing k) (inside r.view w)
      (λ e. record {
        facts = relay_state h.facts (λ z. absurd (false≢true z));
        outside = h.outside;
        inside = λ z. absurd (false≢true z);
        small = h.small;
        view_small = h.view_small;
        updates = h.updates;
        generators = generators_more r.generators (λ v q c. omega (arith, ap tag c)) h.generators;
        transfers = transfers_since one_more h.transfers;
      })
      (λ e. record {
        facts = relay_state h.facts (λ z. (z, λ j. contrary (inside_test j) e));
        outside = h.outside;
        inside = h.inside;
        small = h.small;
        view_small = h.view_small;
        updates = h.updates;
        generators = generators_more r.generators (λ v q c. omega (arith, ap tag c)) h.generators;
        transfers = transfers_since one_more h.transfers;
      }))

  -- "in any case it sends state(o, w, stamp, value, pending) to w's members."
  hands : member o k ≡ true → (r.view ≡ o) ⊎ Inside o r.view → (q : List ℕ) → Plan l o w q
      → RelayDone C l k (sent_first (handed k r o w) (takes_install k (stopped k r o w) o w q))
  hands m i q p =
      after_entries C {l = l} {m = handing} {k = k} (add {e = state k r.view o w (num r.holds.stamp) r.holds.value} (inl refl) stay)
      (sent_first (handed k r o w) (takes_install k (stopped k r o w) o w q))
      (first-sent C (handed k r o w) (takes_install k (stopped k r o w) o w q)
      (takes_done (sound_more _ S (state_justified h.facts (entered_there m i) i)) (stopped k r o w) o w q (stopped_tied m) (plan_since one_more p))
      (rw m (sent_alike handing k (to_members w (state_says o w r.holds r.pending)) (λ n. (r.view, Memᴰ.head refl, h.small, h.updates, member_lt o k m)))))

  -- "NOT YET exactly if the receiver is a member of o and its own view neither equals nor includes o (view 0 never does)."
  pub install-done : (q : List ℕ) → Plan l o w q → RelayDone C l k (install_heard k r o w q)
  unfolding install_heard
  install-done q p = cases (RelayDone C l k) (early k r o) (λ e. tt) (λ e. ⊎_elim (λ m. hands m (there m e) q p) others (decided (member o k)))
    where
      there : member o k ≡ true → early k r o ≡ false → (r.view ≡ o) ⊎ Inside o r.view
      there m e = ⊎_elim (λ d. inl (eqb-true r.view o d)) (λ d. inr (inside_fact o r.view d)) (either_true (eqb r.view o) (inside o r.view) (not-false _ (rw m at e)))

      others : member o k ≡ false → RelayDone C l k (sent_first (handed k r o w) (takes_install k (stopped k r o w) o w q))
      others m = rw m (first-sent C [] (takes_install k r o w q) (takes_done S r o w q h p) all_none)

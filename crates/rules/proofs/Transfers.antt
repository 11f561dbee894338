-- Transfers, the entry test, Install and State keep a relay good, and send well. Assumes nothing.
use Rattle.std.specs.Prelude.{◌&&◌, ◌||◌}
use mathlib.Core.Path.{◌≡◌, refl, ap, ◌∙◌}
use mathlib.Core.Logic.{◌≢◌, ⊎_elim}
use mathlib.Core.Bool.{Bool, true, false, not, and-eq-true_iff}
use mathlib.Core.List.{List, [], ◌∷◌}
use Prim.Native.Nat.{ℕ, ◌<◌}
use native.Mathlib.Omega.{arith}
use lib.Bits.{or_lt, and_zero_l}
use lib.Dec.{eqb}
use borrow.Author.Tests.{ltb-true, eqb-true, eqb-false, not-true, lt-ltb, eq-eqb, ne_eqb}
use Rattle.views.proofs.Nested.{above_fact, above_test, beyond_above}
use Rattle.views.proofs.Sets.{Inside, inside_lt, inside_fact, member_bit}
use Rattle.views.proofs.Truth.{true_right, cases}
use Rattle.stamps.proofs.Order.{greatest_is}
use Rattle.rules.specs.Sets.{members, within, member, inside, none, all}
use Rattle.rules.specs.Stamps.{Pair, greatest}
use Rattle.rules.specs.Messages.{state, Sending, to_members, opened, Answer, refused, does}
use Rattle.rules.specs.State.{Transfer, Relay, with_active, with_transfers}
use Rattle.rules.specs.Relays.{fresh_transfer, is_for, transfer_for, put_transfer, keeps, gathers, passes, moved, onward, enters, tested, early, stopped, handed, takes_install, sent_first, install_heard, state_heard}
use Rattle.rules.specs.WellFormed.{is_pair, distinct, good_move, good_installed, good_transfer, other_move, good_body}
use Rattle.rules.proofs.Hold.{hold_facts, hold_tests, all_parts, all-those, distinct-those, all-put, distinct-put}
use Rattle.rules.proofs.Sends.{SendWell, SendsWell, sends_none, sends_one, sends-append, one_more}
use Rattle.rules.proofs.Relays.{Rel, rel_tables, GoodAnswer, refuses_well, tells_well, does_well, propose_kept}

pub record Tra (s : ℕ) (t : Transfer) : Type 0 where
  pub owner : member t.new s ≡ true
  pub move : good_move t.old t.new ≡ true
  pub plan : none t.sequence || good_installed t.old t.new t.sequence ≡ true
  pub senders : within t.senders (members t.old) ≡ true
  pub best : is_pair t.best ≡ true
  pub gathered : t.gathered < 65536

pub tra_facts : (s : ℕ) (t : Transfer) → good_transfer s t ≡ true → Tra s t
unfolding good_transfer
tra_facts s t e =
    let h = hold_facts _ e in
    record { owner = h.0; move = h.1.0; plan = h.1.1.0; senders = h.1.1.1.0; best = h.1.1.1.1.0; gathered = ltb-true _ _ h.1.1.1.1.1.0 }

pub tra_tests : (s : ℕ) (t : Transfer) → Tra s t → good_transfer s t ≡ true
unfolding good_transfer
tra_tests s t h = hold_tests _ (h.owner, (h.move, (h.plan, (h.senders, (h.best, (lt-ltb _ _ h.gathered, tt))))))

pub record Move (o w : ℕ) : Type 0 where
  pub small : w < 65536
  pub some : o ≢ 0
  pub inner : Inside o w

pub move_facts : (o w : ℕ) → good_move o w ≡ true → Move o w
unfolding good_move
move_facts o w e =
    let h = hold_facts _ e in
    record { small = ltb-true _ _ h.0; some = λ z. eqb-false (members o) 0 (not-true _ h.1.0) (ap members z); inner = inside_fact o w h.1.1.0 }

pub greatest_pair : (a b : Pair) → is_pair a ≡ true → is_pair b ≡ true → is_pair (greatest a b) ≡ true
greatest_pair a b p q = ⊎_elim (λ e. rw e p) (λ e. rw e q) (greatest_is a b)

-- ---- looked up, put back

module _ (s o w : ℕ) (m : member w s ≡ true) (mv : good_move o w ≡ true) where
  fresh_transfer_lem : Tra s (fresh_transfer o w)
  unfolding fresh_transfer is_pair
  fresh_transfer_lem = record { owner = m; move = mv; plan = refl; senders = eq-eqb _ _ (and_zero_l (members o)); best = refl; gathered = ltb-true 0 65536 refl }

  pub found : (ts : List Transfer) → all (good_transfer s) ts ≡ true → Tra s (transfer_for o w ts)
  unfolding transfer_for
  found [] a = fresh_transfer_lem
  found (t ∷ ts) a =
      let k = all_parts (good_transfer s) t ts a in
      let r : Tra s (transfer_for o w ts) = found ts k.1 in
      cases (Tra s) (is_for o w t) (λ _. tra_facts s t k.0) (λ _. r)

pub for_pair : (o w : ℕ) (t : Transfer) → is_for o w t ≡ true → (t.old ≡ o) × (t.new ≡ w)
for_pair o w t e = let k = (and-eq-true_iff (eqb t.old o) (eqb t.new w)).0 e in (eqb-true _ _ k.0, eqb-true _ _ k.1)

pair_found : (o w : ℕ) (ts : List Transfer) → ((transfer_for o w ts).old ≡ o) × ((transfer_for o w ts).new ≡ w)
unfolding transfer_for fresh_transfer
pair_found o w [] = (refl, refl)
pair_found o w (t ∷ ts) = let r = pair_found o w ts in cases (λ (u : Transfer). (u.old ≡ o) × (u.new ≡ w)) (is_for o w t) (λ e. for_pair o w t e) (λ _. r)

pub found_old : (o w : ℕ) (ts : List Transfer) → (transfer_for o w ts).old ≡ o
found_old o w ts = (pair_found o w ts).0

pub found_new : (o w : ℕ) (ts : List Transfer) → (transfer_for o w ts).new ≡ w
found_new o w ts = (pair_found o w ts).1

same_move : Transfer → Transfer → Bool
same_move u t = is_for t.old t.new u

good_put : (s : ℕ) (t : Transfer) → good_transfer s t ≡ true → (us : List Transfer) → all (good_transfer s) us ≡ true → all (good_transfer s) (put_transfer t us) ≡ true
unfolding put_transfer same_move
good_put s = all-put same_move put_transfer (λ t. refl) (λ t u us. refl) (good_transfer s)

apart_put : (t : Transfer) (us : List Transfer) → distinct other_move us ≡ true → distinct other_move (put_transfer t us) ≡ true
unfolding put_transfer same_move
apart_put = distinct-put same_move put_transfer (λ t. refl) (λ t u us. refl) other_move (λ t u e. ap not e)
    (λ t u us e a. let same = for_pair t.old t.new u e in rw (same.0, same.1) at a)

-- ---- the entry test

module _ (s : ℕ) (r : Relay) (h : Rel s r) (t : Transfer) (k : Tra s t) where
  moved_good : (b : Bool) → Rel s (moved r t b)
  unfolding moved
  moved_good b =
      let mv = move_facts t.old t.new k.move in
      record {
        view = mv.small;
        known = cases (λ (x : ℕ). x < 65536) (inside r.known t.new) (λ e. mv.small) (λ e. h.known);
        pending = omega (arith, or_lt 16 r.pending t.gathered h.pending k.gathered);
        holds = k.best;
        active = true_right (not b) k.owner;
        entered = ap not (ne_eqb t.new 0 (λ z. omega (arith, inside_lt mv.inner)));
        generators = h.generators;
        different = h.different;
        transfers = all-those (good_transfer s) (λ u. inside t.new u.new) r.transfers h.transfers;
        apart = distinct-those other_move (λ u. inside t.new u.new) r.transfers h.apart;
      }

  planned : none t.sequence ≡ false → good_installed t.old t.new t.sequence ≡ true
  planned n = rw n at k.plan

  enters_good : none t.sequence ≡ false → GoodAnswer s (enters r t)
  unfolding enters good_installed
  enters_good n =
      let p = hold_facts _ (planned n) in
      let mv = move_facts t.old t.new k.move in
      cases (GoodAnswer s) (none (onward t))
      (λ e. tells_well s (moved r t true) [] (opened t.new) (moved_good true) (sends_none s) mv.small)
      (λ e. unfold moved in (propose_kept s (moved r t false) (moved_good false) t.new (onward t) mv.small k.owner (above_test (beyond_above t.new (above_fact t.old t.sequence p.1.0))) e))

pub tested_good : (s : ℕ) (r : Relay) → Rel s r → (t : Transfer) → Tra s t → GoodAnswer s (tested r t)
unfolding tested
tested_good s r h t k =
    cases (GoodAnswer s) (passes t)
    (λ e. enters_good s (with_transfers r (put_transfer t r.transfers)) kept t k (not-true _ ((and-eq-true_iff _ _).0 e).0))
    (λ e. does_well s _ [] kept (sends_none s))
  where
    kept : Rel s (with_transfers r (put_transfer t r.transfers))
    kept = unfold with_transfers in
        rel_tables h r.generators (put_transfer t r.transfers) h.generators h.different
        (good_put s t (tra_tests s t k) r.transfers h.transfers) (apart_put t r.transfers h.apart)

-- ---- State

module _ (s : ℕ) (r : Relay) (h : Rel s r) (o w : ℕ) (mv : good_move o w ≡ true) where
  pub state-kept : (from : ℕ) (p : Pair) (updates : ℕ) → member o from ≡ true → member w s ≡ true → is_pair p ≡ true → updates < 65536 → GoodAnswer s (state_heard r from o w p updates)
  unfolding state_heard gathers
  state-kept from p updates f m i u =
      let k : Tra s (transfer_for o w r.transfers) = found s o w m mv r.transfers h.transfers in
      cases (GoodAnswer s) (inside r.view w)
      (λ e. tested_good s r h (gathers (transfer_for o w r.transfers) from p updates)
      (record {
        owner = k.owner;
        move = k.move;
        plan = k.plan;
        senders = one_more (transfer_for o w r.transfers).old (transfer_for o w r.transfers).senders from k.senders (rw (found_old o w r.transfers) f);
        best = greatest_pair _ _ k.best i;
        gathered = or_lt 16 _ _ k.gathered u;
      }))
      (λ e. does_well s r [] h (sends_none s))

  -- ---- Install

  state_well : (p : Pair) (updates : ℕ) → member o s ≡ true → is_pair p ≡ true → updates < 65536 → SendWell s (to_members w (state o w p updates))
  unfolding good_body
  state_well p updates m i u n l b =
      hold_tests _ (mv, ((and-eq-true_iff _ _).1 (m, member_bit w n ∙ b), (i, (lt-ltb _ _ u, tt))))

  takes_good : (q : List ℕ) → good_installed o w q ≡ true → GoodAnswer s (takes_install s r o w q)
  unfolding takes_install keeps
  takes_good q g =
      cases (GoodAnswer s) (inside r.view w && member w s)
      (λ e.
      let m : member w s ≡ true = ((and-eq-true_iff (inside r.view w) (member w s)).0 e).1 in
      let k : Tra s (transfer_for o w r.transfers) = found s o w m mv r.transfers h.transfers in
      tested_good s r h (keeps (transfer_for o w r.transfers) q)
      (record {
        owner = k.owner;
        move = k.move;
        plan =
            cases (λ (x : List ℕ). none x || good_installed (transfer_for o w r.transfers).old (transfer_for o w r.transfers).new x ≡ true) (none (transfer_for o w r.transfers).sequence)
            (λ z. true_right (none q) (rw (found_old o w r.transfers, found_new o w r.transfers) g))
            (λ z. k.plan);
        senders = k.senders;
        best = k.best;
        gathered = k.gathered;
      }))
      (λ e. does_well s r [] h (sends_none s))

after_well : (s : ℕ) (first : List Sending) (a : Answer Relay) → SendsWell s first → GoodAnswer s a → GoodAnswer s (sent_first first a)
unfolding GoodAnswer
after_well s first (refused x) f g = tt
after_well s first (does r later e) f g = (g.0, (sends-append s first later f g.1.0, g.1.1))

stopped_good : (s : ℕ) (r : Relay) → Rel s r → (o w : ℕ) → Rel s (stopped s r o w)
unfolding with_active
stopped_good s r h o w =
    cases (Rel s) (member o s && inside r.view w)
    (λ e. record { view = h.view; known = h.known; pending = h.pending; holds = h.holds; active = refl; entered = h.entered; generators = h.generators; different = h.different; transfers = h.transfers; apart = h.apart })
    (λ e. h)

pub install-kept : (s : ℕ) (r : Relay) → Rel s r → (o w : ℕ) (q : List ℕ) → good_move o w ≡ true → good_installed o w q ≡ true → GoodAnswer s (install_heard s r o w q)
unfolding install_heard
install-kept s r h o w q mv g =
    cases (GoodAnswer s) (early s r o) (λ e. refuses_well s _)
    (λ e. after_well s (handed s r o w) _
    (cases (SendsWell s) (member o s)
    (λ m. sends_one s _ (state_well s r h o w mv r.holds r.pending m h.holds h.pending))
    (λ m. sends_none s))
    (takes_good s (stopped s r o w) (stopped_good s r h o w) o w mv q g))

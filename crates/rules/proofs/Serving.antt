-- JOIN, LEAVE, TIMER, Request, View, Get, Put keep a relay good, and send well; so does whatever a relay hears. Assumes nothing.
use Rattle.std.specs.Prelude.{◌&&◌, ◌||◌}
use mathlib.Core.Path.{◌≡◌, refl, ap, ◌∙◌}
use mathlib.Core.Bool.{true, not, and-eq-true_iff}
use mathlib.Core.Logic.{⊎_elim}
use mathlib.Core.List.{[], ◌∷◌}
use Prim.Native.Nat.{ℕ, ◌+◌, ◌^◌, ◌<◌}
use native.Mathlib.Omega.{arith}
use lib.Bits.{or_lt}
use lib.Dec.{eqb, ltb}
use lib.Pow.{pow-lt}
use borrow.Author.Tests.{ltb-true, eqb-true, not-true, not-false, lt-ltb, eq-eqb}
use Rattle.views.proofs.Nested.{above_test, above_none, above_more}
use Rattle.views.proofs.Sets.{inside_or, within_test, member_bit}
use Rattle.views.proofs.Truth.{contrary, true_left, true_right, either_true, neither_true, cases}
use Rattle.rules.specs.Sets.{bit, within, member, inside, joins, leaves, joined}
use Rattle.rules.specs.Stamps.{Pair}
use Rattle.rules.specs.Messages.{Body, request, view, proposal, converged, install, state, get, put, view_reply, pair_reply, ack, Message, to_members, to_one}
use Rattle.rules.specs.State.{Relay, with_known, with_pending, with_holds}
use Rattle.rules.specs.Relays.{join_asked, leave_asked, timer_rang, request_heard, learns, serves, get_heard, put_heard, relay_hears}
use Rattle.rules.specs.WellFormed.{is_pair, is_desk, good_request, good_body}
use Rattle.rules.proofs.Hold.{hold_facts, hold_tests}
use Rattle.rules.proofs.Sends.{SendWell, sends_none, sends_one, from_member, to_member, only_one}
use Rattle.rules.proofs.Relays.{Rel, GoodAnswer, refuses_well, does_well, proposal-kept, converged-kept, propose_kept}
use Rattle.rules.proofs.Transfers.{greatest_pair, state-kept, install-kept}

-- an update of a relay is a view
pub update_small : (s u c : ℕ) → s < 8 → good_request s u c ≡ true → u < 65536
update_small s u c h e =
    ⊎_elim (λ k. rw (eqb-true u (joins s) ((and-eq-true_iff (eqb u (joins s)) (not (within u c))).0 k).0) (pow-lt {i = s} {j = 16} (omega arith)))
    (λ k. rw (eqb-true u (leaves s) ((and-eq-true_iff (eqb u (leaves s)) (member c s)).0 k).0) (pow-lt {i = 8 + s} {j = 16} (omega arith))) (either_true _ _ e)

module _ (s : ℕ) (r : Relay) (h : Rel s r) (small : s < 8) where
  -- ---- JOIN, LEAVE

  request_well : (u c : ℕ) → c < 65536 → good_request s u c ≡ true → SendWell s (to_members c (request u c))
  unfolding good_body
  request_well u c l g n k b = hold_tests _ (lt-ltb s 8 small, (lt-ltb c 65536 l, (g, (member_bit c n ∙ b, tt))))

  pub join_kept : GoodAnswer s (join_asked s r)
  unfolding join_asked
  join_kept =
      cases (GoodAnswer s) (r.entered || within (joins s) r.known) (λ e. refuses_well s _)
      (λ e. does_well s r _ h (sends_one s _ (request_well (joins s) r.known h.known
      (true_left _ ((and-eq-true_iff _ _).1 (eq-eqb (joins s) (joins s) refl, ap not (neither_true r.entered (within (joins s) r.known) e).1))))))

  pub leave-kept : GoodAnswer s (leave_asked s r)
  unfolding leave_asked
  leave-kept =
      cases (GoodAnswer s) (member r.view s)
      (λ e. does_well s r _ h (sends_one s _ (request_well (leaves s) r.view h.view
      (true_right (eqb (leaves s) (joins s) && not (within (leaves s) r.view)) ((and-eq-true_iff _ _).1 (eq-eqb (leaves s) (leaves s) refl, e))))))
      (λ e. refuses_well s _)

  -- ---- TIMER

  active_member : r.active ≡ true → member r.view s ≡ true
  active_member e = ((and-eq-true_iff r.entered (member r.view s)).0 (rw e at h.active)).1

  pub timer-kept : GoodAnswer s (timer_rang r)
  unfolding timer_rang
  timer-kept =
      cases (GoodAnswer s) (r.active && not (within r.pending r.view))
      (λ e.
      let k = (and-eq-true_iff r.active (not (within r.pending r.view))).0 e in
      let grown = inside_or r.view r.pending (λ w. contrary (within_test w) (not-true _ k.1)) in
      propose_kept s r h r.view (joined r.view r.pending ∷ []) h.view (active_member k.0)
      (above_test (above_more grown (or_lt 16 r.view r.pending h.view h.pending) above_none)) refl)
      (λ e. refuses_well s _)

  -- ---- Request, View

  view_well : (from : ℕ) → from < 8 → r.entered ≡ true → SendWell s (to_one from (view r.view))
  unfolding good_body
  view_well from f e n l b =
      let same : n ≡ from = only_one from n b in
      hold_tests _ (lt-ltb s 8 small, (lt-ltb n 8 (omega arith), (lt-ltb r.view 65536 h.view, (rw e at h.entered, tt))))

  request-kept : (from u c : ℕ) → from < 8 → u < 65536 → GoodAnswer s (request_heard r from u c)
  unfolding request_heard with_pending
  request-kept from u c f l =
      cases (GoodAnswer s) (not r.entered) (λ e. does_well s r [] h (sends_none s))
      (λ e. cases (GoodAnswer s) (eqb r.view c)
      (λ k. does_well s _ []
      (cases (Rel s) (within u r.view) (λ z. h)
      (λ z. record { view = h.view; known = h.known; pending = or_lt 16 r.pending u h.pending l; holds = h.holds; active = h.active; entered = h.entered; generators = h.generators; different = h.different; transfers = h.transfers; apart = h.apart }))
      (sends_none s))
      (λ k. does_well s r _ h (sends_one s _ (view_well from f (not-false r.entered e)))))

  learns_good : (v : ℕ) → v < 65536 → Rel s (learns r v)
  unfolding learns with_known
  learns_good v l =
      cases (Rel s) (inside r.known v)
      (λ e. record { view = h.view; known = l; pending = h.pending; holds = h.holds; active = h.active; entered = h.entered; generators = h.generators; different = h.different; transfers = h.transfers; apart = h.apart })
      (λ e. h)

  -- ---- Get, Put

  module _ (from try : ℕ) (f : is_desk from ≡ true) (l : try < 65536) where
    to-desk : (n : ℕ) → bit (2 ^ from) n ≡ true → ltb s 8 && is_desk n ≡ true
    to-desk n b = (and-eq-true_iff _ _).1 (lt-ltb s 8 small, rw (only_one from n b) f)

    view_reply_lem : SendWell s (to_one from (view_reply try r.view))
    unfolding good_body
    view_reply_lem n k b = hold_tests _ (lt-ltb try 65536 l, (lt-ltb r.view 65536 h.view, (to-desk n b, tt)))

    pair_reply_lem : SendWell s (to_one from (pair_reply try r.holds))
    unfolding good_body
    pair_reply_lem n k b = hold_tests _ (lt-ltb try 65536 l, (h.holds, (to-desk n b, tt)))

    ack_reply : SendWell s (to_one from (ack try))
    unfolding good_body
    ack_reply n k b = hold_tests _ (lt-ltb try 65536 l, (to-desk n b, tt))

    get-kept : (c : ℕ) → GoodAnswer s (get_heard r from try c)
    unfolding get_heard
    get-kept c =
        cases (GoodAnswer s) (not (serves r c)) (λ e. refuses_well s _)
        (λ e. cases (GoodAnswer s) (inside c r.view) (λ k. does_well s r _ h (sends_one s _ view_reply_lem)) (λ k. does_well s r _ h (sends_one s _ pair_reply_lem)))

    put-kept : (c : ℕ) (p : Pair) → is_pair p ≡ true → GoodAnswer s (put_heard r from try c p)
    unfolding put_heard with_holds
    put-kept c p i =
        cases (GoodAnswer s) (not (serves r c)) (λ e. refuses_well s _)
        (λ e. cases (GoodAnswer s) (inside c r.view) (λ k. does_well s r _ h (sends_one s _ view_reply_lem))
        (λ k. does_well s _ _
        (record { view = h.view; known = h.known; pending = h.pending; holds = greatest_pair r.holds p h.holds i; active = h.active; entered = h.entered; generators = h.generators; different = h.different; transfers = h.transfers; apart = h.apart })
        (sends_one s _ ack_reply)))

-- ---- whatever a relay hears

pub hears-kept : (s : ℕ) (r : Relay) (from : ℕ) (b : Body) → Rel s r → s < 8 → good_body (record { from = from; to = s; body = b }) b ≡ true → GoodAnswer s (relay_hears s r from b)
unfolding relay_hears good_body
hears-kept s r from (request u c) h l g =
    let k = hold_facts _ g in
    let f : from < 8 = ltb-true _ _ k.0 in
    request-kept s r h l from u c f (update_small from u c f k.1.1.0)
hears-kept s r from (view v) h l g =
    let k = hold_facts _ g in
    does_well s (learns r v) [] (learns_good s r h l v (ltb-true _ _ k.1.1.0)) (sends_none s)
hears-kept s r from (proposal v q) h l g =
    let k = hold_facts _ g in
    let m : Message = record { from = from; to = s; body = proposal v q } in
    proposal-kept s r h from v q (ltb-true _ _ k.0) (to_member v v m k.1.0) (from_member v v m k.1.0) k.1.1.0 (not-true _ k.1.1.1.0)
hears-kept s r from (converged v q) h l g =
    let k = hold_facts _ g in
    let m : Message = record { from = from; to = s; body = converged v q } in
    converged-kept s r h from v q (ltb-true _ _ k.0) (to_member v v m k.1.0) (from_member v v m k.1.0) k.1.1.0 (not-true _ k.1.1.1.0)
hears-kept s r from (install o w q) h l g =
    let k = hold_facts _ g in
    install-kept s r h o w q k.0 k.1.0
hears-kept s r from (state o w p updates) h l g =
    let k = hold_facts _ g in
    let m : Message = record { from = from; to = s; body = state o w p updates } in
    state-kept s r h o w k.0 from p updates (from_member o w m k.1.0) (to_member o w m k.1.0) k.1.1.0 (ltb-true _ _ k.1.1.1.0)
hears-kept s r from (get try c) h l g =
    let k = hold_facts _ g in
    get-kept s r h l from try ((and-eq-true_iff _ _).0 k.1.1.0).0 (ltb-true _ _ k.0) c
hears-kept s r from (put try c p) h l g =
    let k = hold_facts _ g in
    put-kept s r h l from try ((and-eq-true_iff _ _).0 k.1.1.0).0 (ltb-true _ _ k.0) c p k.1.1.1.0
hears-kept s r from (view_reply try v) h l g = does_well s r [] h (sends_none s)
hears-kept s r from (pair_reply try p) h l g = does_well s r [] h (sends_none s)
hears-kept s r from (ack try) h l g = does_well s r [] h (sends_none s)

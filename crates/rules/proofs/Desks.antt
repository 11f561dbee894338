-- The rules at a desk keep it good, and send well. Assumes nothing.
use Rattle.std.specs.Prelude.{◌&&◌}
use mathlib.Core.Path.{◌≡◌, refl, ap, ◌∙◌}
use mathlib.Core.Bool.{Bool, true, false, not, and-eq-true_iff}
use mathlib.Core.List.{List, [], ◌∷◌}
use Prim.Native.Nat.{ℕ, ◌+◌, ◌^◌, ◌<◌}
use native.Mathlib.Omega.{arith}
use lib.Bits.{and_zero_l}
use lib.Dec.{eqb, ltb}
use lib.Pow.{pow_pos}
use borrow.Author.Tests.{ltb-true, leb-false, eqb-true, lt-ltb, le-leb, eq-eqb, ne_eqb}
use Rattle.views.proofs.Sets.{within_le, within_or_right, member_bit}
use Rattle.views.proofs.Truth.{contrary, true_left, cases}
use Rattle.rules.specs.Sets.{members, within, member, reaches, inside, joins, joined}
use Rattle.rules.specs.Stamps.{Pair, zero_pair}
use Rattle.rules.specs.Messages.{Body, request, view, proposal, converged, install, state, get, put, view_reply, pair_reply, ack, Message, Sending, to_members, Event, nothing, read_done, write_done, Refusal, Answer, refused, does}
use Rattle.rules.specs.State.{Desk, Phase, Idle, Read1, Read2, Write1, Write2}
use Rattle.rules.specs.Desks.{is_idle, is_first, is_second, full, cleared, asks, begins, ended, read_asked, write_asked, current, view_came, notes_pair, notes_ack, takes_stamp, completes, counted, pair_came, ack_came, desk_hears}
use Rattle.rules.specs.WellFormed.{is_stamp, is_pair, is_zero_pair, is_desk, good_best, good_phase, good_desk, good_body}
use Rattle.rules.proofs.Hold.{hold_facts, hold_tests}
use Rattle.rules.proofs.Sends.{SendWell, SendsWell, sends_none, sends_one, EventWell, one_more}
use Rattle.rules.proofs.Transfers.{greatest_pair}

pub record Dsk (d : Desk) : Type 0 where
  pub view : d.view < 65536
  pub tries : d.tries < 65536
  pub who : within d.replied (members d.view) ≡ true
  pub phase : good_phase d.phase d ≡ true

pub desk_facts : (d : Desk) → good_desk d ≡ true → Dsk d
unfolding good_desk
desk_facts d e = let h = hold_facts _ e in record { view = ltb-true _ _ h.0; tries = ltb-true _ _ h.1.0; who = h.1.1.0; phase = h.1.1.1.0 }

pub desk_tests : (d : Desk) → Dsk d → good_desk d ≡ true
unfolding good_desk
desk_tests d h = hold_tests _ (lt-ltb _ _ h.view, (lt-ltb _ _ h.tries, (h.who, (h.phase, tt))))

unfoldable pub GoodAnswer : ℕ → Answer Desk → Type 0
GoodAnswer n (refused x) = Unit {0}
GoodAnswer n (does d ss e) = Dsk d × (SendsWell (8 + n) ss × EventWell e)

refuses_well : (n : ℕ) (x : Refusal) → GoodAnswer n (refused x)
unfolding GoodAnswer
refuses_well n x = tt

tells_well : (n : ℕ) (d : Desk) (ss : List Sending) (e : Event) → Dsk d → SendsWell (8 + n) ss → EventWell e → GoodAnswer n (does d ss e)
unfolding GoodAnswer
tells_well n d ss e h k t = (h, (k, t))

does_well : (n : ℕ) (d : Desk) (ss : List Sending) → Dsk d → SendsWell (8 + n) ss → GoodAnswer n (does d ss nothing)
does_well n d ss h k = tells_well n d ss nothing h k tt

-- ---- the stamp and value that a phase holds

holds_fit : Phase → Pair → Bool
holds_fit Idle p = is_zero_pair p
holds_fit Read1 p = is_zero_pair p
holds_fit Read2 p = is_pair p
holds_fit Write1 p = is_pair p && (eqb p.stamp.count 0 && eqb p.stamp.desk 0)
holds_fit Write2 p = is_pair p

held_fits : (ph : Phase) (d : Desk) → good_phase ph d ≡ true → holds_fit ph d.holds ≡ true
unfolding good_phase holds_fit
held_fits Idle d e = (hold_facts _ e).0
held_fits Read1 d e = (hold_facts _ e).0
held_fits Read2 d e = (hold_facts _ e).0
held_fits Write1 d e =
    let h = hold_facts _ e in
    (and-eq-true_iff _ _).1 (h.0, (and-eq-true_iff _ _).1 (h.1.0, h.1.1.0))
held_fits Write2 d e = (hold_facts _ e).0

zero_pair_lem : (p : Pair) → is_zero_pair p ≡ true → is_pair p ≡ true
unfolding is_pair
zero_pair_lem p e =
    let k = (and-eq-true_iff (eqb p.stamp.count 0 && eqb p.stamp.desk 0) (eqb p.value 0)).0 e in
    let s = (and-eq-true_iff (eqb p.stamp.count 0) (eqb p.stamp.desk 0)).0 k.0 in
    rw (eqb-true p.stamp.count 0 s.0, eqb-true p.stamp.desk 0 s.1, eqb-true p.value 0 k.1)

fit_pair : (ph : Phase) (p : Pair) → holds_fit ph p ≡ true → is_pair p ≡ true
unfolding holds_fit
fit_pair Idle p e = zero_pair_lem p e
fit_pair Read1 p e = zero_pair_lem p e
fit_pair Read2 p e = e
fit_pair Write1 p e = ((and-eq-true_iff (is_pair p) _).0 e).0
fit_pair Write2 p e = e

-- ---- a phase begins

cleared_fits : (d : Desk) (ph : Phase) (v : ℕ) (p : Pair) (t : ℕ) → holds_fit ph p ≡ true → good_phase ph (cleared d ph v p t) ≡ true
unfolding good_phase holds_fit is_pair
cleared_fits d Idle v p t e = hold_tests _ (e, (refl, (refl, tt)))
cleared_fits d Read1 v p t e = hold_tests _ (e, (refl, tt))
cleared_fits d Read2 v p t e = hold_tests _ (e, (refl, tt))
cleared_fits d Write1 v p t e =
    let k = (and-eq-true_iff (is_pair p) (eqb p.stamp.count 0 && eqb p.stamp.desk 0)).0 e in
    let z = (and-eq-true_iff (eqb p.stamp.count 0) (eqb p.stamp.desk 0)).0 k.1 in
    hold_tests _ (k.0, (z.0, (z.1, (refl, tt))))
cleared_fits d Write2 v p t e = hold_tests _ (e, (refl, tt))

cleared_good : (d : Desk) (ph : Phase) (v : ℕ) (p : Pair) (t : ℕ) → v < 65536 → t < 65536 → holds_fit ph p ≡ true → Dsk (cleared d ph v p t)
cleared_good d ph v p t l k e = record { view = l; tries = k; who = eq-eqb _ _ (and_zero_l (members v)); phase = cleared_fits d ph v p t e }

-- a reply that is current is a member's
pub current_member : (d : Desk) (from try : ℕ) → current d from try ≡ true → member d.view from ≡ true
current_member d from try e =
    ((and-eq-true_iff (eqb try _) (member d.view from)).0 ((and-eq-true_iff (not (is_idle d.phase)) _).0 e).1).1

module _ (n : ℕ) (desk : n < 4) where
  desk-number : is_desk (8 + n) ≡ true
  desk-number = (and-eq-true_iff _ _).1 (le-leb 8 (8 + n) (omega arith), lt-ltb (8 + n) 12 (omega arith))

  asks_well : (ph : Phase) (t v : ℕ) (p : Pair) → t < 65536 → v < 65536 → is_pair p ≡ true → SendWell (8 + n) (to_members v (asks ph t v p))
  asks_well ph t v p l k i m b c =
      cases (λ (x : Body). good_body (record { from = 8 + n; to = m; body = x }) x ≡ true) (is_first ph)
      (λ e. unfold good_body in (hold_tests (ltb t 65536 ∷ ltb v 65536 ∷ (is_desk (8 + n) && member v m) ∷ []) (lt-ltb t 65536 l, (lt-ltb v 65536 k, ((and-eq-true_iff _ _).1 (desk-number, member_bit v m ∙ c), tt)))))
      (λ e. unfold good_body in (hold_tests (ltb t 65536 ∷ ltb v 65536 ∷ (is_desk (8 + n) && member v m) ∷ is_pair p ∷ []) (lt-ltb t 65536 l, (lt-ltb v 65536 k, ((and-eq-true_iff _ _).1 (desk-number, member_bit v m ∙ c), (i, tt))))))

  begins_good : (d : Desk) (ph : Phase) (v : ℕ) (p : Pair) → v < 65536 → holds_fit ph p ≡ true → GoodAnswer n (begins d ph v p)
  unfolding begins
  begins_good d ph v p l e =
      cases (GoodAnswer n) (full d.tries) (λ k. refuses_well n _)
      (λ k.
      let t : d.tries + 1 < 65536 = omega (arith, leb-false) in
      does_well n (cleared d ph v p (d.tries + 1)) _ (cleared_good d ph v p (d.tries + 1) l t e)
      (sends_one (8 + n) _ (asks_well ph (d.tries + 1) v p t l (fit_pair ph p e))))

  pub read_kept : (d : Desk) → Dsk d → GoodAnswer n (read_asked d)
  unfolding read_asked holds_fit
  read_kept d h = cases (GoodAnswer n) (is_idle d.phase) (λ e. begins_good d Read1 d.view zero_pair h.view refl) (λ e. refuses_well n _)

  pub write_kept : (d : Desk) (x : ℕ) → Dsk d → x < 4294967296 → GoodAnswer n (write_asked d x)
  unfolding write_asked holds_fit is_pair
  write_kept d x h l = cases (GoodAnswer n) (is_idle d.phase) (λ e. begins_good d Write1 d.view (record { stamp = zero_pair.stamp; value = x }) h.view (rw (lt-ltb x 4294967296 l))) (λ e. refuses_well n _)

  -- ---- replies

  pub view-kept : (d : Desk) (from try v : ℕ) → Dsk d → v < 65536 → GoodAnswer n (view_came d from try v)
  unfolding view_came
  view-kept d from try v h l =
      cases (GoodAnswer n) (current d from try && inside d.view v)
      (λ e. begins_good d d.phase v d.holds l (held_fits d.phase d h.phase))
      (λ e. does_well n d [] h (sends_none (8 + n)))

  ended_good : (d : Desk) (e : Event) → Dsk d → EventWell e → GoodAnswer n (does (ended d) [] e)
  unfolding holds_fit
  ended_good d e h t = tells_well n (ended d) [] e (cleared_good d Idle d.view zero_pair d.tries h.view h.tries refl) (sends_none (8 + n)) t

  stamps_good : (d : Desk) → Dsk d → is_pair d.best ≡ true → is_pair d.holds ≡ true → GoodAnswer n (takes_stamp n d)
  unfolding takes_stamp holds_fit is_pair
  stamps_good d h b p =
      cases (GoodAnswer n) (full d.best.stamp.count) (λ e. refuses_well n _)
      (λ e.
      let c : d.best.stamp.count + 1 < 65536 = omega (arith, leb-false) in
      begins_good d Write2 d.view (record { stamp = record { count = d.best.stamp.count + 1; desk = n }; value = d.holds.value }) h.view
      ((and-eq-true_iff _ _).1 ((and-eq-true_iff _ _).1 (lt-ltb (d.best.stamp.count + 1) 65536 c, lt-ltb n 4 desk), ((and-eq-true_iff (is_stamp d.holds.stamp) _).0 p).1)))

  best-pair : (d : Desk) → good_best d ≡ true → is_pair d.best ≡ true
  best-pair d e = ((and-eq-true_iff _ _).0 e).0

  completes_good : (d : Desk) (ph : Phase) → Dsk d → good_phase ph d ≡ true → GoodAnswer n (completes n d ph)
  unfolding completes good_phase
  completes_good d Idle h g = does_well n d [] h (sends_none (8 + n))
  completes_good d Read1 h g =
      cases (GoodAnswer n) d.agreed (λ e. ended_good d (read_done d.best) h (best-pair d (hold_facts _ g).1.0))
      (λ e. begins_good d Read2 d.view d.best h.view (unfold holds_fit in (best-pair d (hold_facts _ g).1.0)))
  completes_good d Read2 h g = ended_good d (read_done d.holds) h (hold_facts _ g).0
  completes_good d Write1 h g = let k = hold_facts _ g in stamps_good d h (best-pair d k.1.1.1.0) k.0
  completes_good d Write2 h g = ended_good d (write_done d.holds) h (hold_facts _ g).0

  counted_good : (d : Desk) → Dsk d → GoodAnswer n (counted n d)
  unfolding counted
  counted_good d h =
      cases (GoodAnswer n) (reaches d.view d.replied) (λ e. completes_good d d.phase h h.phase) (λ e. does_well n d [] h (sends_none (8 + n)))

  -- a reply is noted
  module _ (d : Desk) (from : ℕ) (h : Dsk d) (m : member d.view from ≡ true) where
    more_replied : within (joined d.replied (joins from)) (members d.view) ≡ true
    more_replied = one_more d.view d.replied from h.who m

    someone : eqb (joined d.replied (joins from)) 0 ≡ false
    someone = ne_eqb (joined d.replied (joins from)) 0 (λ z. omega (arith, within_le (within_or_right d.replied (2 ^ from)), pow_pos from))

    best_noted : (p : Pair) → is_pair p ≡ true → is_pair d.best ≡ true → good_best (notes_pair d from p) ≡ true
    unfolding notes_pair
    best_noted p i b =
        (and-eq-true_iff _ _).1 (greatest_pair d.best p b i, true_left _ (ap not someone))

    phase_noted : (ph : Phase) (p : Pair) → is_first ph ≡ true → is_pair p ≡ true → good_phase ph d ≡ true → good_phase ph (notes_pair d from p) ≡ true
    unfolding good_phase
    phase_noted Idle p f i g = absurd (contrary f refl)
    phase_noted Read1 p f i g = let k = hold_facts _ g in hold_tests _ (unfold notes_pair in k.0, (best_noted p i (best-pair d k.1.0), tt))
    phase_noted Read2 p f i g = absurd (contrary f refl)
    phase_noted Write1 p f i g = let k = hold_facts _ g in hold_tests _ (unfold notes_pair in k.0, (unfold notes_pair in k.1.0, (unfold notes_pair in k.1.1.0, (best_noted p i (best-pair d k.1.1.1.0), tt))))
    phase_noted Write2 p f i g = absurd (contrary f refl)

    pair_noted : (p : Pair) → is_first d.phase ≡ true → is_pair p ≡ true → Dsk (notes_pair d from p)
    unfolding notes_pair
    pair_noted p f i = record { view = h.view; tries = h.tries; who = more_replied; phase = phase_noted d.phase p f i h.phase }

    phase_acked : (ph : Phase) → is_second ph ≡ true → good_phase ph d ≡ true → good_phase ph (notes_ack d from) ≡ true
    unfolding good_phase notes_ack
    phase_acked Idle f g = absurd (contrary f refl)
    phase_acked Read1 f g = absurd (contrary f refl)
    phase_acked Read2 f g = g
    phase_acked Write1 f g = absurd (contrary f refl)
    phase_acked Write2 f g = g

    ack_noted : is_second d.phase ≡ true → Dsk (notes_ack d from)
    unfolding notes_ack
    ack_noted f = record { view = h.view; tries = h.tries; who = more_replied; phase = phase_acked d.phase f h.phase }

  pub pair-kept : (d : Desk) (from try : ℕ) (p : Pair) → Dsk d → is_pair p ≡ true → GoodAnswer n (pair_came n d from try p)
  unfolding pair_came
  pair-kept d from try p h i =
      cases (GoodAnswer n) (current d from try && is_first d.phase)
      (λ e.
      let k = (and-eq-true_iff (current d from try) (is_first d.phase)).0 e in
      counted_good (notes_pair d from p) (pair_noted d from h (current_member d from try k.0) p k.1 i))
      (λ e. does_well n d [] h (sends_none (8 + n)))

  pub ack-kept : (d : Desk) (from try : ℕ) → Dsk d → GoodAnswer n (ack_came n d from try)
  unfolding ack_came
  ack-kept d from try h =
      cases (GoodAnswer n) (current d from try && is_second d.phase)
      (λ e.
      let k = (and-eq-true_iff (current d from try) (is_second d.phase)).0 e in
      counted_good (notes_ack d from) (ack_noted d from h (current_member d from try k.0) k.1))
      (λ e. does_well n d [] h (sends_none (8 + n)))

  pub hears-kept : (d : Desk) (m : Message) (b : Body) → Dsk d → good_body m b ≡ true → GoodAnswer n (desk_hears n d m.from b)
  unfolding desk_hears good_body
  hears-kept d m (view_reply try v) h g = let k = hold_facts _ g in view-kept d m.from try v h (ltb-true _ _ k.1.0)
  hears-kept d m (pair_reply try p) h g = let k = hold_facts _ g in pair-kept d m.from try p h k.1.0
  hears-kept d m (ack try) h g = ack-kept d m.from try h
  hears-kept d m (request u c) h g = does_well n d [] h (sends_none (8 + n))
  hears-kept d m (view v) h g = does_well n d [] h (sends_none (8 + n))
  hears-kept d m (proposal v q) h g = does_well n d [] h (sends_none (8 + n))
  hears-kept d m (converged v q) h g = does_well n d [] h (sends_none (8 + n))
  hears-kept d m (install o w q) h g = does_well n d [] h (sends_none (8 + n))
  hears-kept d m (state o w p updates) h g = does_well n d [] h (sends_none (8 + n))
  hears-kept d m (get try c) h g = does_well n d [] h (sends_none (8 + n))
  hears-kept d m (put try c p) h g = does_well n d [] h (sends_none (8 + n))

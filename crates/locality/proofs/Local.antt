-- What a rule leaves of a part: a generator and a transfer of the same keys, and no transfer after an entry; and it sends at most two things.
-- Assumes nothing.
use mathlib.Core.Path.{◌≡◌, refl, ap, ◌∙◌}
use mathlib.Core.Bool.{Bool, true, false, not, ◌&&◌, ◌||◌}
use mathlib.Core.List.{List, [], ◌∷◌}
use Prim.Native.Nat.{ℕ, suc, ◌≤◌, suc-le-suc}
use native.Mathlib.Omega.{arith}
use lib.Dec.{eqb, lit≤}
use lib.ListN.{length}
use borrow.Author.Tests.{eq-eqb}
use Rattle.views.proofs.Truth.{cases, contrary}
use Rattle.rules.specs.Sets.{member, within, inside, none, all, joins, joined}
use Rattle.rules.specs.Stamps.{Pair}
use Rattle.rules.specs.Messages.{Body, request, view, proposal, converged, install, state, get, put, view_reply, pair_reply, ack, Sending, Event, nothing, opened, Refusal, Answer, refused, does}
use Rattle.rules.specs.State.{Transfer, Relay, with_known, with_pending, with_active, with_holds, with_generators, with_transfers}
use Rattle.rules.specs.Generators.{generator_for, Turn, proposes, proposal_heard, converged_heard}
use Rattle.rules.specs.Relays.{at_generator, join_asked, leave_asked, timer_rang, request_heard, learns, is_for, put_transfer, passes, moved, onward, enters, tested, early, stopped, takes_install, sent_first, install_heard, state_heard, serves, get_heard, put_heard, relay_hears}
use Rattle.rules.proofs.Hold.{all_none}
use Rattle.rules.proofs.Generators.{view_of, Leaves, proposes-leaves, proposal-leaves, converged-leaves}
use Rattle.relay.proofs.Laws.{sent-none}
use Rattle.locality.specs.Narrow.{generator_of_body, Move, move, move_of_body, narrow}
use Rattle.locality.specs.Asked.{relay_asked}
use Rattle.locality.proofs.Turn.{keeps-move, gathers-move}
use Rattle.locality.proofs.Table.{by_view, by_move, freed-move, put_keyed, those-none}
use Rattle.locality.proofs.Fits.{shows_view_lem, shows_move_lem}

-- n shows v and m
pub record Shows (v : ℕ) (m : Move) (n : Relay) : Type 0 where
  pub generators : all (λ g. eqb g.view v) n.generators ≡ true
  pub transfers : all (is_for m.old m.new) n.transfers ≡ true

-- what a part of a relay with the view x becomes, and what is sent: at most k
pub record Local (x v : ℕ) (m : Move) (k : ℕ) (n : Relay) (ss : List Sending) : Type 0 where
  pub shows : Shows v m n
  -- an entry, and nothing else, changes the view
  pub freed : eqb n.view x ≡ false → n.transfers ≡ []
  pub few : length ss ≤ k

unfoldable pub LocalAnswer : (x v : ℕ) → Move → ℕ → Answer Relay → Type 0
LocalAnswer x v m k (refused y) = Unit {0}
LocalAnswer x v m k (does n ss e) = Local x v m k n ss

module _ (x v : ℕ) (m : Move) where
  refuses : (k : ℕ) (y : Refusal) → LocalAnswer x v m k (refused y)
  unfolding LocalAnswer
  refuses k y = tt

  acts : (k : ℕ) (n : Relay) (ss : List Sending) (e : Event) → Local x v m k n ss → LocalAnswer x v m k (does n ss e)
  unfolding LocalAnswer
  acts k n ss e h = h

  more : (k : ℕ) (a : Answer Relay) → LocalAnswer x v m k a → LocalAnswer x v m (suc k) a
  unfolding LocalAnswer
  more k (refused y) h = tt
  more k (does n ss e) h = record { shows = h.shows; freed = h.freed; few = omega (arith, h.few) }

  -- one thing is sent first
  first : (k : ℕ) (s : Sending) (a : Answer Relay) → LocalAnswer x v m k a → LocalAnswer x v m (suc k) (sent_first (s ∷ []) a)
  unfolding LocalAnswer
  first k s (refused y) h = tt
  first k s (does n ss e) h = record { shows = h.shows; freed = h.freed; few = suc-le-suc h.few }

  -- what is shown, and the view stays
  module _ (n : Relay) (h : Shows v m n) (same : n.view ≡ x) where
    unmoved : eqb n.view x ≡ false → n.transfers ≡ []
    unmoved z = absurd (contrary (eq-eqb n.view x same) z)

    stays : (k : ℕ) (ss : List Sending) (e : Event) → length ss ≤ k → LocalAnswer x v m k (does n ss e)
    stays k ss e f = acts k n ss e (record { shows = h; freed = unmoved; few = f })

  turned_local : (k : ℕ) (n : Relay) → Shows v m n → (eqb n.view x ≡ false → n.transfers ≡ []) → (t : Turn) → Leaves v k t → LocalAnswer x v m k (at_generator n t)
  unfolding at_generator with_generators
  turned_local k n h freed t l =
      acts k _ t.sendings nothing
      (record { shows = record { generators = put_keyed by_view v t.next l.for n.generators h.generators; transfers = h.transfers }; freed = freed; few = l.few })

  module _ (p : Relay) (h : Shows v m p) where
    -- ---- the entry test

    module _ (t : Transfer) (key : move t.old t.new ≡ m) where
      put_shows : all (is_for m.old m.new) (put_transfer t p.transfers) ≡ true
      put_shows = put_keyed by_move m t key p.transfers h.transfers

      kept_shows : Shows v m (with_transfers p (put_transfer t p.transfers))
      unfolding with_transfers
      kept_shows = record { generators = h.generators; transfers = put_shows }

      moved_none : (b : Bool) → (moved (with_transfers p (put_transfer t p.transfers)) t b).transfers ≡ []
      unfolding moved with_transfers
      moved_none b = those-none (is_for m.old m.new) (λ u. inside t.new u.new) (freed-move m t key) (put_transfer t p.transfers) put_shows

      moved_shows : (b : Bool) → Shows v m (moved (with_transfers p (put_transfer t p.transfers)) t b)
      unfolding moved with_transfers
      moved_shows b = record { generators = h.generators; transfers = rw (moved_none b) (all_none (is_for m.old m.new)) }

      tested_local : p.view ≡ x → t.new ≡ v → LocalAnswer x v m 1 (tested p t)
      unfolding tested enters with_transfers
      tested_local same to =
          let l = proposes-leaves (generator_for t.new p.generators) (onward t) in
          cases (LocalAnswer x v m 1) (passes t)
          (λ _. cases (LocalAnswer x v m 1) (none (onward t))
          (λ _. acts 1 _ [] (opened t.new) (record { shows = moved_shows true; freed = λ _. moved_none true; few = lit≤ tt }))
          (λ _. turned_local 1 _ (moved_shows false) (λ _. moved_none false) _ (record { for = l.for ∙ view_of t.new p.generators ∙ to; few = l.few })))
          (λ _. stays _ kept_shows same 1 [] nothing (lit≤ tt))

-- ---- the rules at a part p

module _ (v : ℕ) (m : Move) (p : Relay) (h : Shows v m p) where
  abbrev Here : ℕ → Answer Relay → Type 0
  Here k a = LocalAnswer p.view v m k a

  here : (k : ℕ) (ss : List Sending) → length ss ≤ k → Here k (does p ss nothing)
  here k ss f = stays p.view v m p h refl k ss nothing f

  head : (n : Relay) → n.view ≡ p.view → n.generators ≡ p.generators → n.transfers ≡ p.transfers → (k : ℕ) (ss : List Sending) → length ss ≤ k
      → Here k (does n ss nothing)
  head n e g t k ss f = stays p.view v m n (record { generators = rw g h.generators; transfers = rw t h.transfers }) e k ss nothing f

  join-here : (s : ℕ) → Here 2 (join_asked s p)
  unfolding join_asked
  join-here s = cases (Here 2) (p.entered || within (joins s) p.known) (λ _. refuses p.view v m 2 _) (λ _. here 2 _ (lit≤ tt))

  leave-here : (s : ℕ) → Here 2 (leave_asked s p)
  unfolding leave_asked
  leave-here s = cases (Here 2) (member p.view s) (λ _. here 2 _ (lit≤ tt)) (λ _. refuses p.view v m 2 _)

  request-here : (from u c : ℕ) → Here 2 (request_heard p from u c)
  unfolding request_heard with_pending
  request-here from u c =
      cases (Here 2) (not p.entered) (λ _. here 2 [] (lit≤ tt))
      (λ _. cases (Here 2) (eqb p.view c)
      (λ _. cases (λ n. Here 2 (does n [] nothing)) (within u p.view) (λ _. here 2 [] (lit≤ tt)) (λ _. head _ refl refl refl 2 [] (lit≤ tt)))
      (λ _. here 2 _ (lit≤ tt)))

  view-here : (u : ℕ) → Here 2 (does (learns p u) [] nothing)
  unfolding learns with_known
  view-here u = cases (λ n. Here 2 (does n [] nothing)) (inside p.known u) (λ _. head _ refl refl refl 2 [] (lit≤ tt)) (λ _. here 2 [] (lit≤ tt))

  get-here : (from try c : ℕ) → Here 2 (get_heard p from try c)
  unfolding get_heard
  get-here from try c =
      cases (Here 2) (not (serves p c)) (λ _. refuses p.view v m 2 _)
      (λ _. cases (Here 2) (inside c p.view) (λ _. here 2 _ (lit≤ tt)) (λ _. here 2 _ (lit≤ tt)))

  put-here : (from try c : ℕ) (q : Pair) → Here 2 (put_heard p from try c q)
  unfolding put_heard with_holds
  put-here from try c q =
      cases (Here 2) (not (serves p c)) (λ _. refuses p.view v m 2 _)
      (λ _. cases (Here 2) (inside c p.view) (λ _. here 2 _ (lit≤ tt)) (λ _. head _ refl refl refl 2 _ (lit≤ tt)))

  turned-here : (k : ℕ) (t : Turn) → Leaves v k t → Here k (at_generator p t)
  turned-here k t l = turned_local p.view v m k p h (unmoved p.view v m p h refl) t l

  timer-here : p.view ≡ v → Here 2 (timer_rang p)
  unfolding timer_rang
  timer-here e =
      let t : Turn = proposes (generator_for p.view p.generators) (joined p.view p.pending ∷ []) in
      let l = proposes-leaves (generator_for p.view p.generators) (joined p.view p.pending ∷ []) in
      cases (Here 2) (p.active && not (within p.pending p.view))
      (λ _. turned-here 2 t (record { for = l.for ∙ view_of p.view p.generators ∙ e; few = omega (arith, l.few) })) (λ _. refuses p.view v m 2 _)

  proposal-here : (from : ℕ) (q : List ℕ) → Here 2 (at_generator p (proposal_heard (generator_for v p.generators) from q))
  proposal-here from q =
      let l = proposal-leaves (generator_for v p.generators) from q in
      turned-here 2 _ (record { for = l.for ∙ view_of v p.generators; few = l.few })

  converged-here : (from : ℕ) (q : List ℕ) → Here 2 (at_generator p (converged_heard (generator_for v p.generators) from q))
  converged-here from q =
      let l = converged-leaves (generator_for v p.generators) from q in
      turned-here 2 _ (record { for = l.for ∙ view_of v p.generators; few = omega (arith, l.few) })

-- ---- Install, State

module _ (o w : ℕ) (p : Relay) (h : Shows w (move o w) p) where
  abbrev At : ℕ → Answer Relay → Type 0
  At k a = LocalAnswer p.view w (move o w) k a

  move_local : (n : Relay) → Shows w (move o w) n → n.view ≡ p.view → (t : Transfer) → move t.old t.new ≡ move o w → At 1 (tested n t)
  move_local n k e t key = tested_local p.view w (move o w) n k t key e (ap (λ (m : Move). m.new) key)

  takes_local : (s : ℕ) (q : List ℕ) (n : Relay) → Shows w (move o w) n → n.view ≡ p.view → At 1 (takes_install s n o w q)
  unfolding takes_install
  takes_local s q n k e =
      cases (At 1) (inside n.view w && member w s)
      (λ _. move_local n k e _ (keeps-move o w n.transfers q))
      (λ _. stays p.view w (move o w) n k e 1 [] nothing (lit≤ tt))

  install_local : (s : ℕ) (q : List ℕ) → At 2 (install_heard s p o w q)
  unfolding install_heard with_active
  install_local s q =
      let taken : At 1 (takes_install s (stopped s p o w) o w q) =
      cases (λ n. At 1 (takes_install s n o w q)) (member o s && inside p.view w)
      (λ _. takes_local s q _ (record { generators = h.generators; transfers = h.transfers }) refl) (λ _. takes_local s q p h refl) in
      cases (At 2) (early s p o) (λ _. refuses p.view w (move o w) 2 _)
      (λ _. cases (λ ss. At 2 (sent_first ss (takes_install s (stopped s p o w) o w q))) (member o s)
      (λ _. first p.view w (move o w) 1 _ _ taken)
      (λ _. rw (sent-none (takes_install s (stopped s p o w) o w q)) (more p.view w (move o w) 1 _ taken)))

  state_local : (from : ℕ) (q : Pair) (u : ℕ) → At 2 (state_heard p from o w q u)
  unfolding state_heard
  state_local from q u =
      cases (At 2) (inside p.view w)
      (λ _. more p.view w (move o w) 1 _ (move_local p h refl _ (gathers-move o w p.transfers from q u)))
      (λ _. stays p.view w (move o w) p h refl 2 [] nothing (lit≤ tt))

-- ---- whatever a part hears

hears-here : (s : ℕ) (p : Relay) (from : ℕ) (b : Body) → Shows (generator_of_body b) (move_of_body b) p
    → LocalAnswer p.view (generator_of_body b) (move_of_body b) 2 (relay_hears s p from b)
unfolding relay_hears
hears-here s p from (request u c) h = request-here 0 (move 0 0) p h from u c
hears-here s p from (view v) h = view-here 0 (move 0 0) p h v
hears-here s p from (proposal v q) h = proposal-here v (move 0 0) p h from q
hears-here s p from (converged v q) h = converged-here v (move 0 0) p h from q
hears-here s p from (install o w q) h = install_local o w p h s q
hears-here s p from (state o w q u) h = state_local o w p h from q u
hears-here s p from (get try c) h = get-here 0 (move 0 0) p h from try c
hears-here s p from (put try c q) h = put-here 0 (move 0 0) p h from try c q
hears-here s p from (view_reply try v) h = here 0 (move 0 0) p h 2 [] (lit≤ tt)
hears-here s p from (pair_reply try q) h = here 0 (move 0 0) p h 2 [] (lit≤ tt)
hears-here s p from (ack try) h = here 0 (move 0 0) p h 2 [] (lit≤ tt)

-- ---- the part of a relay r

module _ (r : Relay) where
  narrow_shows : (v : ℕ) (m : Move) → Shows v m (narrow r v m)
  narrow_shows v m = record { generators = shows_view_lem r v m; transfers = shows_move_lem r v m }

  pub hears_local : (s from : ℕ) (b : Body) → LocalAnswer r.view (generator_of_body b) (move_of_body b) 2 (relay_hears s (narrow r (generator_of_body b) (move_of_body b)) from b)
  unfolding narrow
  hears_local s from b = hears-here s (narrow r (generator_of_body b) (move_of_body b)) from b (narrow_shows (generator_of_body b) (move_of_body b))

  pub asked_local : (kind s : ℕ) → LocalAnswer r.view r.view (move 0 0) 2 (relay_asked kind s (narrow r r.view (move 0 0)))
  unfolding relay_asked narrow
  asked_local kind s =
      let v = r.view in
      let p = narrow r v (move 0 0) in
      let h = narrow_shows v (move 0 0) in
      let Here = LocalAnswer v v (move 0 0) 2 in
      cases Here (eqb kind 1) (λ _. join-here v (move 0 0) p h s) (λ _. cases Here (eqb kind 2) (λ _. leave-here v (move 0 0) p h s) (λ _. timer-here v (move 0 0) p h refl))

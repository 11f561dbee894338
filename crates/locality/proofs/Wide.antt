-- THE LOCALITY LAW: what a relay does is what its part does that shows the message's generator and transfer, done to the whole. It holds of every relay,
-- good or not. Assumes nothing.
use Rattle.std.specs.Prelude.{if◌then◌else◌}
use mathlib.Core.Path.{◌≡◌, refl, sym, ap, ◌∙◌}
use mathlib.Core.Bool.{Bool, true, false, not, ◌&&◌, ◌||◌, and-eq-true_iff}
use mathlib.Core.List.{List, []}
use Prim.Native.Nat.{ℕ}
use native.Mathlib.Omega.{arith}
use lib.Dec.{eqb}
use borrow.Author.Tests.{eq-eqb, ne_eqb}
use Rattle.views.proofs.Sets.{inside_lt, inside_fact}
use Rattle.rules.specs.Sets.{those, member, within, inside, none, joins, joined}
use Rattle.rules.specs.Stamps.{Pair, greatest}
use Rattle.rules.specs.Messages.{Body, request, view, proposal, converged, install, state, get, put, view_reply, pair_reply, ack, Sending, Event, nothing, Refusal, Answer, refused, does}
use Rattle.rules.specs.State.{Generator, Transfer, Relay, with_known, with_pending, with_active, with_holds, with_generators, with_transfers}
use Rattle.rules.specs.Generators.{generator_for, put_generator, Turn, proposes, proposal_heard, converged_heard}
use Rattle.rules.specs.Relays.{at_generator, join_asked, leave_asked, timer_rang, request_heard, learns, is_for, put_transfer, passes, moved, onward, enters, tested, early, handed, takes_install, sent_first, install_heard, state_heard, serves, get_heard, put_heard, relay_hears}
use Rattle.rules.proofs.Generators.{view_of, proposes-leaves, proposal-leaves, converged-leaves}
use Rattle.locality.specs.Narrow.{generator_of_body, Move, move, move_of_body, with_tables, narrow, put_back, widened, widens}
use Rattle.locality.specs.Asked.{relay_asked}
use Rattle.locality.proofs.Turn.{keeps-move, gathers-move}
use Rattle.locality.proofs.Table.{by_view, by_move, freed-move, find_part, put_back_lem, part_back, put-dropped}

-- ---- by the two values of a test on both sides

module _ {A B : Type 0} (R : A → B → Type 0) where
  both : (b : Bool) {x y : A} {x' y' : B} → (b ≡ true → R x x') → (b ≡ false → R y y') → R (if b then x else y) (if b then x' else y')
  both true f g = f refl
  both false f g = g refl

-- ---- an answer of the whole, and one of the part

unfoldable pub Wide : Relay → Answer Relay → Answer Relay → Type 0
Wide r a b = a ≡ widens r b

does_wide : (r n m : Relay) (ss : List Sending) (e : Event) → n ≡ widened r m → Wide r (does n ss e) (does m ss e)
unfolding Wide
does_wide r n m ss e p = rw p

refuses_wide : (r : Relay) (x : Refusal) → Wide r (refused x) (refused x)
unfolding Wide
refuses_wide r x = refl

first-widens : (r : Relay) (first : List Sending) (b : Answer Relay) → sent_first first (widens r b) ≡ widens r (sent_first first b)
first-widens r first (refused x) = refl
first-widens r first (does n ss e) = refl

first_wide : (r : Relay) (first : List Sending) (a b : Answer Relay) → Wide r a b → Wide r (sent_first first a) (sent_first first b)
unfolding Wide
first_wide r first a b p = ap (sent_first first) p ∙ first-widens r first b

module _ (r : Relay) (v : ℕ) (m : Move) where
  -- a relay with r's tables, and its part
  abbrev whole : Relay → Relay
  whole h = with_tables h r.generators r.transfers

  abbrev shown : Relay → Relay
  shown h = with_tables h (those (λ g. eqb g.view v) r.generators) (those (is_for m.old m.new) r.transfers)

  -- the head changed, but for the view
  head_wide : (h : Relay) → h.view ≡ r.view → whole h ≡ widened r (shown h)
  unfolding widened
  head_wide h e = rw (part_back by_view v r.generators, eq-eqb h.view r.view e, part_back by_move m r.transfers)

  same_wide : r ≡ widened r (narrow r v m)
  unfolding narrow
  same_wide = head_wide r refl

  -- a generator changed
  turned_wide : (h : Relay) → h.view ≡ r.view → (t : Turn) → t.next.view ≡ v → Wide r (at_generator (whole h) t) (at_generator (shown h) t)
  unfolding at_generator with_generators widened
  turned_wide h e t k = does_wide r _ _ _ _ (rw (put_back_lem by_view v t.next k r.generators, eq-eqb h.view r.view e, part_back by_move m r.transfers))

  -- a transfer changed, and the entry test
  module _ (h : Relay) (e : h.view ≡ r.view) (t : Transfer) (p : move t.old t.new ≡ m) (to : t.new ≡ v) (inner : inside h.view t.new ≡ true) where
    kept_wide : with_transfers (whole h) (put_transfer t r.transfers) ≡ widened r (with_transfers (shown h) (put_transfer t (shown h).transfers))
    unfolding widened with_transfers
    kept_wide = rw (part_back by_view v r.generators, eq-eqb h.view r.view e, put_back_lem by_move m t p r.transfers)

    -- r has entered, and has the generators gs; its part has ps
    entry_wide : (b : Bool) (gs ps : List Generator) → gs ≡ put_back put_generator ps r.generators
        → with_generators (moved (with_transfers (whole h) (put_transfer t r.transfers)) t b) gs
        ≡ widened r (with_generators (moved (with_transfers (shown h) (put_transfer t (shown h).transfers)) t b) ps)
    unfolding widened with_transfers with_generators moved
    entry_wide b gs ps q =
        let new : eqb t.new r.view ≡ false = ne_eqb _ _ (λ (z : t.new ≡ r.view). omega (arith, inside_lt (inside_fact h.view t.new inner))) in
        rw (put-dropped by_move m (λ u. inside t.new u.new) (freed-move m t p) t p r.transfers, new, q)

    find_shown : generator_for t.new (shown h).generators ≡ generator_for t.new r.generators
    find_shown = rw to (find_part by_view v r.generators)

    tested_wide : Wide r (tested (whole h) t) (tested (shown h) t)
    unfolding tested enters at_generator moved with_transfers with_generators
    tested_wide =
        let next : Generator = (proposes (generator_for t.new r.generators) (onward t)).next in
        let for : next.view ≡ v = (proposes-leaves (generator_for t.new r.generators) (onward t)).for ∙ view_of t.new r.generators ∙ to in
        both (Wide r) (passes t)
        (λ _. both (Wide r) (none (onward t))
        (λ _. does_wide r _ _ _ _ (entry_wide true r.generators (shown h).generators (sym (part_back by_view v r.generators))))
        (λ _. rw find_shown (does_wide r _ _ _ _ (entry_wide false (put_generator next r.generators) (put_generator next (shown h).generators)
        (sym (put_back_lem by_view v next for r.generators))))))
        (λ _. does_wide r _ _ _ _ kept_wide)

  -- ---- Request, View, Get, Put

  request_wide : (from u c : ℕ) → Wide r (request_heard r from u c) (request_heard (narrow r v m) from u c)
  unfolding request_heard narrow with_pending
  request_wide from u c =
      both (Wide r) (not r.entered) (λ _. does_wide r _ _ _ _ same_wide)
      (λ _. both (Wide r) (eqb r.view c)
      (λ _. does_wide r _ _ _ _ (both (λ a b. a ≡ widened r b) (within u r.view) (λ _. same_wide) (λ _. head_wide (with_pending r (joined r.pending u)) refl)))
      (λ _. does_wide r _ _ _ _ same_wide))

  view_wide : (u : ℕ) → learns r u ≡ widened r (learns (narrow r v m) u)
  unfolding learns narrow with_known
  view_wide u = both (λ a b. a ≡ widened r b) (inside r.known u) (λ _. head_wide (with_known r u) refl) (λ _. same_wide)

  get_wide : (from try c : ℕ) → Wide r (get_heard r from try c) (get_heard (narrow r v m) from try c)
  unfolding get_heard narrow
  get_wide from try c =
      both (Wide r) (not (serves r c)) (λ _. refuses_wide r _)
      (λ _. both (Wide r) (inside c r.view) (λ _. does_wide r _ _ _ _ same_wide) (λ _. does_wide r _ _ _ _ same_wide))

  put_wide : (from try c : ℕ) (p : Pair) → Wide r (put_heard r from try c p) (put_heard (narrow r v m) from try c p)
  unfolding put_heard narrow with_holds
  put_wide from try c p =
      both (Wide r) (not (serves r c)) (λ _. refuses_wide r _)
      (λ _. both (Wide r) (inside c r.view) (λ _. does_wide r _ _ _ _ same_wide)
      (λ _. does_wide r _ _ _ _ (head_wide (with_holds r (greatest r.holds p)) refl)))

  -- ---- JOIN, LEAVE

  join_is_wide : (s : ℕ) → Wide r (join_asked s r) (join_asked s (narrow r v m))
  unfolding join_asked narrow
  join_is_wide s = both (Wide r) (r.entered || within (joins s) r.known) (λ _. refuses_wide r _) (λ _. does_wide r _ _ _ _ same_wide)

  leave_is_wide : (s : ℕ) → Wide r (leave_asked s r) (leave_asked s (narrow r v m))
  unfolding leave_asked narrow
  leave_is_wide s = both (Wide r) (member r.view s) (λ _. does_wide r _ _ _ _ same_wide) (λ _. refuses_wide r _)

-- ---- TIMER, Proposal, Converged

module _ (r : Relay) (v : ℕ) (m : Move) where
  timer_is_wide : r.view ≡ v → Wide r (timer_rang r) (timer_rang (narrow r v m))
  unfolding timer_rang narrow
  timer_is_wide e =
      let found : generator_for r.view (those (λ g. eqb g.view v) r.generators) ≡ generator_for r.view r.generators = rw e (find_part by_view v r.generators) in
      both (Wide r) (r.active && not (within r.pending r.view))
      (λ _. rw found (turned_wide r v m r refl _ ((proposes-leaves _ _).for ∙ view_of r.view r.generators ∙ e)))
      (λ _. refuses_wide r _)

  proposal_wide : (from : ℕ) (q : List ℕ) → Wide r (at_generator r (proposal_heard (generator_for v r.generators) from q))
      (at_generator (narrow r v m) (proposal_heard (generator_for v (narrow r v m).generators) from q))
  unfolding narrow
  proposal_wide from q =
      rw (find_part by_view v r.generators) (turned_wide r v m r refl _ ((proposal-leaves _ _ _).for ∙ view_of v r.generators))

  converged_wide : (from : ℕ) (q : List ℕ) → Wide r (at_generator r (converged_heard (generator_for v r.generators) from q))
      (at_generator (narrow r v m) (converged_heard (generator_for v (narrow r v m).generators) from q))
  unfolding narrow
  converged_wide from q =
      rw (find_part by_view v r.generators) (turned_wide r v m r refl _ ((converged-leaves _ _ _).for ∙ view_of v r.generators))

-- ---- Install, State

module _ (r : Relay) (o w : ℕ) where
  move_wide : (h : Relay) → h.view ≡ r.view → inside h.view w ≡ true → (t : Transfer) → move t.old t.new ≡ move o w
      → Wide r (tested (whole r w (move o w) h) t) (tested (shown r w (move o w) h) t)
  move_wide h e inner t key =
      let to : t.new ≡ w = ap (λ (m : Move). m.new) key in
      tested_wide r w (move o w) h e t key to (rw to inner)

  module _ (s : ℕ) (q : List ℕ) where
    takes_wide : (h : Relay) → h.view ≡ r.view → Wide r (takes_install s (whole r w (move o w) h) o w q) (takes_install s (shown r w (move o w) h) o w q)
    unfolding takes_install
    takes_wide h e =
        both (Wide r) (inside h.view w && member w s)
        (λ i. rw (find_part by_move (move o w) r.transfers) (move_wide h e ((and-eq-true_iff (inside h.view w) (member w s)).0 i).0 _ (keeps-move o w r.transfers q)))
        (λ _. does_wide r _ _ _ _ (head_wide r w (move o w) h e))

    install_wide : Wide r (install_heard s r o w q) (install_heard s (narrow r w (move o w)) o w q)
    unfolding install_heard narrow with_active
    install_wide =
        both (Wide r) (early s r o) (λ _. refuses_wide r _)
        (λ _. first_wide r (handed s r o w) _ _
        (both (λ a b. Wide r (takes_install s a o w q) (takes_install s b o w q)) (member o s && inside r.view w)
        (λ _. takes_wide (with_active r false) refl) (λ _. takes_wide r refl)))

  state_wide : (from : ℕ) (p : Pair) (u : ℕ) → Wide r (state_heard r from o w p u) (state_heard (narrow r w (move o w)) from o w p u)
  unfolding state_heard narrow
  state_wide from p u =
      both (Wide r) (inside r.view w)
      (λ i. rw (find_part by_move (move o w) r.transfers) (move_wide r refl i _ (gathers-move o w r.transfers from p u)))
      (λ _. does_wide r _ _ _ _ (same_wide r w (move o w)))

-- ---- the law

pub hears_wide : (s : ℕ) (r : Relay) (from : ℕ) (b : Body) → relay_hears s r from b ≡ widens r (relay_hears s (narrow r (generator_of_body b) (move_of_body b)) from b)
unfolding relay_hears Wide
hears_wide s r from (request u c) = request_wide r 0 (move 0 0) from u c
hears_wide s r from (view v) = does_wide r _ _ [] nothing (view_wide r 0 (move 0 0) v)
hears_wide s r from (proposal v q) = proposal_wide r v (move 0 0) from q
hears_wide s r from (converged v q) = converged_wide r v (move 0 0) from q
hears_wide s r from (install o w q) = install_wide r o w s q
hears_wide s r from (state o w p u) = state_wide r o w from p u
hears_wide s r from (get try c) = get_wide r 0 (move 0 0) from try c
hears_wide s r from (put try c p) = put_wide r 0 (move 0 0) from try c p
hears_wide s r from (view_reply try v) = does_wide r _ _ [] nothing (same_wide r 0 (move 0 0))
hears_wide s r from (pair_reply try p) = does_wide r _ _ [] nothing (same_wide r 0 (move 0 0))
hears_wide s r from (ack try) = does_wide r _ _ [] nothing (same_wide r 0 (move 0 0))

pub asked_wide : (kind s : ℕ) (r : Relay) → relay_asked kind s r ≡ widens r (relay_asked kind s (narrow r r.view (move 0 0)))
unfolding relay_asked Wide
asked_wide kind s r =
    let v = r.view in
    both (Wide r) (eqb kind 1) (λ _. join_is_wide r v (move 0 0) s)
    (λ _. both (Wide r) (eqb kind 2) (λ _. leave_is_wide r v (move 0 0) s) (λ _. timer_is_wide r v (move 0 0) refl))

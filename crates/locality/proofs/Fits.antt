-- The part of a good relay is fitting for a good message, and a row cuts nothing off there: what the code answers at it is the rule's answer.
-- Assumes nothing.
use Rattle.std.specs.Prelude.{◌&&◌}
use mathlib.Core.Path.{◌≡◌, refl}
use mathlib.Core.Bool.{true, and-eq-true_iff}
use mathlib.Core.List.{List}
use Prim.Native.Nat.{ℕ, ◌<◌}
use native.Mathlib.Omega.{arith}
use lib.Dec.{eqb, leb, ltb}
use borrow.Author.Tests.{ltb-true, lt-ltb}
use Rattle.views.proofs.Sets.{member_lt}
use Rattle.rules.specs.Sets.{member, above, all}
use Rattle.rules.specs.Messages.{Body, request, view, proposal, converged, install, state, get, put, view_reply, pair_reply, ack, Message}
use Rattle.rules.specs.State.{Relay}
use Rattle.rules.specs.Generators.{generator_for, proposal_heard}
use Rattle.rules.specs.Relays.{is_for, join_asked, timer_rang, relay_hears}
use Rattle.rules.specs.WellFormed.{is_desk, good_relay, good_body}
use Rattle.rules.proofs.Hold.{hold_facts}
use Rattle.rules.proofs.Sends.{from_member, to_member}
use Rattle.rules.proofs.Generators.{gen_tests, looked_up, view_of}
use Rattle.rules.proofs.Relays.{Rel, rel_facts}
use Rattle.generator.specs.Heard.{heard_in_row}
use Rattle.generator.proofs.Whole.{in_row_whole}
use Rattle.relay.specs.Fitting.{shows_view, fitting, join_answer, timer_answer, hears_in_row, hears_answer}
use Rattle.locality.specs.Narrow.{generator_of_body, Move, move, move_of_body, narrow}
use Rattle.locality.proofs.Table.{by_view, by_move, part_keyed, find_part}

module _ (r : Relay) (v : ℕ) (m : Move) where
  -- a part shows what it is the part for
  pub shows_view_lem : all (λ g. eqb g.view v) (narrow r v m).generators ≡ true
  unfolding narrow
  shows_view_lem = part_keyed by_view v r.generators

  pub shows_move_lem : all (is_for m.old m.new) (narrow r v m).transfers ≡ true
  unfolding narrow
  shows_move_lem = part_keyed by_move m r.transfers

pub shows_own : (r : Relay) → let p = narrow r r.view (move 0 0) in shows_view p.view p ≡ true
unfolding narrow
shows_own r = shows_view_lem r r.view (move 0 0)

-- ---- fitting

below_12 : (n : ℕ) → n < 8 → ltb n 12 ≡ true
below_12 n h = lt-ltb n 12 (omega arith)

desk_12 : (c : ℕ) (m : Message) → is_desk m.from && member c m.to ≡ true → ltb m.from 12 ≡ true
desk_12 c m g = ((and-eq-true_iff (leb 8 m.from) (ltb m.from 12)).0 ((and-eq-true_iff (is_desk m.from) _).0 g).0).1

pub fits : (m : Message) (b : Body) (r : Relay) → good_body m b ≡ true → fitting (narrow r (generator_of_body b) (move_of_body b)) m.from b ≡ true
unfolding fitting good_body
fits m (request u c) r g = below_12 m.from (ltb-true _ _ (hold_facts _ g).0)
fits m (view v) r g = refl
fits m (proposal v q) r g = shows_view_lem r v (move 0 0)
fits m (converged v q) r g = shows_view_lem r v (move 0 0)
fits m (install o w q) r g = (and-eq-true_iff _ _).1 (shows_view_lem r w (move o w), shows_move_lem r w (move o w))
fits m (state o w p u) r g =
    let relay : m.from < 8 = member_lt o m.from (from_member o w m (hold_facts _ g).1.0) in
    (and-eq-true_iff _ _).1 (lt-ltb m.from 8 relay, (and-eq-true_iff _ _).1 (shows_view_lem r w (move o w), shows_move_lem r w (move o w)))
fits m (get try c) r g = desk_12 c m (hold_facts _ g).1.1.0
fits m (put try c p) r g = desk_12 c m (hold_facts _ g).1.1.0
fits m (view_reply try v) r g = refl
fits m (pair_reply try p) r g = refl
fits m (ack try) r g = refl

-- ---- a row cuts nothing off

-- at the part of a good relay that is a member of v, a proposal above v
whole_row : (s : ℕ) (r : Relay) → Rel s r → (from v : ℕ) (q : List ℕ) (m : Move) → v < 65536 → member v s ≡ true → above v q ≡ true
    → heard_in_row (generator_for v (narrow r v m).generators) from q ≡ proposal_heard (generator_for v (narrow r v m).generators) from q
unfolding narrow
whole_row s r h from v q m small owner a =
    rw (find_part by_view v r.generators)
    (in_row_whole s (generator_for v r.generators) (gen_tests s _ (looked_up s v r.generators small owner h.generators)) q (rw (view_of v r.generators) a) from)

in_row : (s : ℕ) (r : Relay) (m : Message) (b : Body) → good_relay s r ≡ true → m.to ≡ s → good_body m b ≡ true
    → hears_in_row s (narrow r (generator_of_body b) (move_of_body b)) m.from b ≡ relay_hears s (narrow r (generator_of_body b) (move_of_body b)) m.from b
unfolding hears_in_row relay_hears good_body
in_row s r m (proposal v q) good to g =
    let k = hold_facts _ g in
    rw (whole_row s r (rel_facts s r good) m.from v q (move 0 0) (ltb-true _ _ k.0) (rw to at (to_member v v m k.1.0)) k.1.1.0)
in_row s r m (request u c) good to g = refl
in_row s r m (view v) good to g = refl
in_row s r m (converged v q) good to g = refl
in_row s r m (install o w q) good to g = refl
in_row s r m (state o w p u) good to g = refl
in_row s r m (get try c) good to g = refl
in_row s r m (put try c p) good to g = refl
in_row s r m (view_reply try v) good to g = refl
in_row s r m (pair_reply try p) good to g = refl
in_row s r m (ack try) good to g = refl

-- ---- the code's answers are the rules'

pub hears_fits : (s : ℕ) (r : Relay) (m : Message) (b : Body) → good_relay s r ≡ true → m.to ≡ s → good_body m b ≡ true
    → hears_answer s (narrow r (generator_of_body b) (move_of_body b)) m.from b ≡ relay_hears s (narrow r (generator_of_body b) (move_of_body b)) m.from b
unfolding hears_answer
hears_fits s r m b good to g = rw (fits m b r g, in_row s r m b good to g)

pub join_fits : (s : ℕ) (r : Relay) → s < 8 → join_answer s r ≡ join_asked s r
unfolding join_answer
join_fits s r l = rw (lt-ltb s 8 l)

pub timer_fits : (r : Relay) → shows_view r.view r ≡ true → timer_answer r ≡ timer_rang r
unfolding timer_answer
timer_fits r h = rw h

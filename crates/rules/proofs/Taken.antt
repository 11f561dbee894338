-- What a rule leaves of a relay's generators and transfers fits into eight places of each exactly where as many as it takes were free at its begin
-- (specs/Table):
-- a transfer just taken never passes the entry test (Rooms), so no rule both takes and frees. Assumes nothing.
use Rattle.std.specs.Prelude.{if◌then◌else◌, ◌&&◌, ◌||◌}
use mathlib.Core.Path.{◌≡◌, refl, sym, ap, subst, ◌∙◌}
use mathlib.Core.Bool.{Bool, true, false, not}
use mathlib.Core.List.{List, [], ◌∷◌}
use Prim.Native.Nat.{ℕ, ◌+◌, ◌-◌, ◌≤◌}
use native.Mathlib.Omega.{arith}
use lib.Dec.{eqb, leb}
use lib.ListN.{length}
use borrow.Author.Tests.{leb-true, le-leb, not-true}
use Rattle.views.proofs.Truth.{contrary, never_true, same_truth, cases}
use Rattle.rules.specs.Sets.{within, member, inside, joins, none, all, those}
use Rattle.rules.specs.Stamps.{Pair}
use Rattle.rules.specs.Messages.{Body, request, view, proposal, converged, install, state, get, put, view_reply, pair_reply, ack, Sending, opened, Answer, refused, does, quietly}
use Rattle.rules.specs.State.{Generator, Transfer, Relay, with_known, with_pending, with_active, with_holds, with_generators, with_transfers}
use Rattle.rules.specs.Generators.{generator_for, put_generator, Turn, one_if, proposes}
use Rattle.rules.specs.Relays.{at_generator, join_asked, leave_asked, timer_rang, request_heard, learns, fresh_transfer, is_for, transfer_for, put_transfer, keeps, gathers, passes, moved, onward, enters, tested, early, stopped, handed, takes_install, sent_first, install_heard, state_heard, serves, get_heard, put_heard, relay_hears}
use Rattle.rules.specs.Table.{lacks_generator, lacks_transfer, proposes_on, takes_generator, takes_transfer, generators_for, transfers_for}
use Rattle.rules.proofs.Hold.{all_parts, put-length}
use Rattle.rules.proofs.Lists.{those_fewer}
use Rattle.rules.proofs.Generators.{view_of, proposes-leaves, converged-leaves, proposal-leaves}
use Rattle.rules.proofs.Transfers.{found_old, found_new}
use Rattle.rules.proofs.Rooms.{install_waits, state_waits}

-- ---- m places are in use afterwards, n at the begin, one more where one is taken

fits_one : (m n : ℕ) (b : Bool) → n ≤ 8 → m ≡ n + one_if b → leb m 8 ≡ leb (one_if b) (8 - n)
fits_one m n b h e =
    same_truth (leb m 8) (leb (one_if b) (8 - n))
    (λ t. le-leb (one_if b) (8 - n) (omega (arith, leb-true m 8 t))) (λ t. le-leb m 8 (omega (arith, leb-true (one_if b) (8 - n) t)))

fits_none : (m n : ℕ) → n ≤ 8 → m ≤ n → leb m 8 ≡ leb (one_if false) (8 - n)
fits_none m n h l = le-leb m 8 (omega arith) ∙ sym (le-leb 0 (8 - n) (omega arith))

same_view : Generator → Generator → Bool
same_view h g = eqb h.view g.view

generators_long : (g : Generator) (gs : List Generator) → length (put_generator g gs) ≡ length gs + one_if (all (λ h. not (eqb h.view g.view)) gs)
unfolding put_generator same_view
generators_long = put-length same_view put_generator (λ g. refl) (λ g h hs. refl)

same_move : Transfer → Transfer → Bool
same_move u t = is_for t.old t.new u

transfers_long : (t : Transfer) (ts : List Transfer) → length (put_transfer t ts) ≡ length ts + one_if (all (λ u. not (is_for t.old t.new u)) ts)
unfolding put_transfer same_move
transfers_long = put-length same_move put_transfer (λ t. refl) (λ t u us. refl)

-- a transfer that is absent is fresh
lacking : (o w : ℕ) (ts : List Transfer) → all (λ t. not (is_for o w t)) ts ≡ true → transfer_for o w ts ≡ fresh_transfer o w
unfolding transfer_for
lacking o w [] a = refl
lacking o w (t ∷ ts) a =
    let k = all_parts (λ u. not (is_for o w u)) t ts a in
    let e : is_for o w t ≡ false = not-true _ k.0 in
    rw e (lacking o w ts k.1)

-- ---- the tables that an answer leaves fit, exactly where what is taken was free

abbrev pub Fits : Relay → Bool → Bool → Answer Relay → Type 0
Fits r g t (refused x) = Unit
Fits r g t (does n ss e) = (leb (length n.generators) 8 ≡ generators_for r g) × (leb (length n.transfers) 8 ≡ transfers_for r t)

pub record Few (r : Relay) : Type 0 where
  pub generators : length r.generators ≤ 8
  pub transfers : length r.transfers ≤ 8

module _ (r : Relay) (few : Few r) where
  -- the tables are as they were
  as_was : (leb (length r.generators) 8 ≡ generators_for r false) × (leb (length r.transfers) 8 ≡ transfers_for r false)
  as_was =
      let g : ℕ = length r.generators in
      let t : ℕ = length r.transfers in
      (fits_none g g few.generators (omega arith), fits_none t t few.transfers (omega arith))

  put_fits : (g : Generator) (v : ℕ) → g.view ≡ v → leb (length (put_generator g r.generators)) 8 ≡ generators_for r (lacks_generator r v)
  put_fits g v e =
      let long : length (put_generator g r.generators) ≡ length r.generators + one_if (lacks_generator r v) =
      subst (λ (u : ℕ). length (put_generator g r.generators) ≡ length r.generators + one_if (lacks_generator r u)) e (generators_long g r.generators)
      in
      fits_one (length (put_generator g r.generators)) (length r.generators) (lacks_generator r v) few.generators long

  turn_fits : (t : Turn) (v : ℕ) → t.next.view ≡ v → Fits r (lacks_generator r v) false (at_generator r t)
  unfolding at_generator with_generators
  turn_fits t v e = (put_fits t.next v e, as_was.1)

  pub join_fits : (s : ℕ) → Fits r false false (join_asked s r)
  unfolding join_asked
  join_fits s = cases (Fits r false false) (r.entered || within (joins s) r.known) (λ _. tt) (λ _. as_was)

  pub leave_fits : (s : ℕ) → Fits r false false (leave_asked s r)
  unfolding leave_asked
  leave_fits s = cases (Fits r false false) (member r.view s) (λ _. as_was) (λ _. tt)

  pub timer_fits : Fits r (lacks_generator r r.view) false (timer_rang r)
  unfolding timer_rang
  timer_fits =
      cases (Fits r (lacks_generator r r.view) false) (r.active && not (within r.pending r.view))
      (λ _. turn_fits _ r.view ((proposes-leaves (generator_for r.view r.generators) _).for ∙ view_of r.view r.generators)) (λ _. tt)

  request_fits : (from u c : ℕ) → Fits r false false (request_heard r from u c)
  unfolding request_heard with_pending
  request_fits from u c =
      cases (Fits r false false) (not r.entered) (λ _. as_was)
      (λ _. cases (Fits r false false) (eqb r.view c)
      (λ _. cases (λ (n : Relay). Fits r false false (quietly n)) (within u r.view) (λ _. as_was) (λ _. as_was)) (λ _. as_was))

  learns_fits : (v : ℕ) → Fits r false false (quietly (learns r v))
  unfolding learns with_known
  learns_fits v = cases (λ (n : Relay). Fits r false false (quietly n)) (inside r.known v) (λ _. as_was) (λ _. as_was)

  -- the transfer t, from o to w, is put back and tested
  module _ (t : Transfer) (o w : ℕ) (old : t.old ≡ o) (new : t.new ≡ w) (waits : lacks_transfer r o w ≡ true → passes t ≡ false) where
    kept_long : length (put_transfer t r.transfers) ≡ length r.transfers + one_if (lacks_transfer r o w)
    kept_long =
        transfers_long t r.transfers ∙ ap (λ (x : ℕ). length r.transfers + one_if (lacks_transfer r x t.new)) old
        ∙ ap (λ (x : ℕ). length r.transfers + one_if (lacks_transfer r o x)) new

    abbrev kept : Relay
    kept = with_transfers r (put_transfer t r.transfers)

    -- at an entry nothing was taken, and some are freed
    freed_fits : passes t ≡ true → leb (length (moved kept t true).transfers) 8 ≡ transfers_for r (lacks_transfer r o w)
    unfolding moved with_transfers
    freed_fits p =
        let there : lacks_transfer r o w ≡ false = never_true _ (λ a. contrary p (waits a)) in
        let fewer : length (those (λ u. inside t.new u.new) (put_transfer t r.transfers)) ≤ length r.transfers =
        omega (arith, those_fewer (λ u. inside t.new u.new) (put_transfer t r.transfers), kept_long, ap one_if there)
        in
        rw there (fits_none _ (length r.transfers) few.transfers fewer)

    enters_fits : passes t ≡ true → Fits r (not (none (onward t)) && lacks_generator r w) (lacks_transfer r o w) (enters kept t)
    unfolding enters moved with_transfers at_generator with_generators
    enters_fits p = go (none (onward t))
      where
        go : (b : Bool) → Fits r (not b && lacks_generator r w) (lacks_transfer r o w)
            (if b then does (moved kept t true) [] (opened t.new) else at_generator (moved kept t false)
            (proposes (generator_for t.new r.generators) (onward t)))
        go true = (as_was.0, freed_fits p)
        go false = (
          put_fits _ w ((proposes-leaves (generator_for t.new r.generators) (onward t)).for
              ∙ view_of t.new r.generators ∙ new),
          freed_fits p,
        )

    tested_fits : Fits r (proposes_on t && lacks_generator r w) (lacks_transfer r o w) (tested r t)
    unfolding tested with_transfers
    tested_fits = go (passes t) refl
      where
        go : (b : Bool) → passes t ≡ b → Fits r ((b && not (none (onward t))) && lacks_generator r w) (lacks_transfer r o w)
            (if b then enters kept t else quietly kept)
        go true p = enters_fits p
        go false p = (as_was.0, fits_one _ _ (lacks_transfer r o w) few.transfers kept_long)

  state_fits : (s from o w : ℕ) (p : Pair) (u : ℕ)
      → Fits r (takes_generator s r from (state o w p u)) (takes_transfer s r (state o w p u)) (state_heard r from o w p u)
  unfolding state_heard gathers
  state_fits s from o w p u = go (inside r.view w)
    where
      t : Transfer
      t = gathers (transfer_for o w r.transfers) from p u

      go : (b : Bool) → Fits r (b && (proposes_on t && lacks_generator r w)) (b && lacks_transfer r o w) (if b then tested r t else quietly r)
      go true = tested_fits t o w (found_old o w r.transfers) (found_new o w r.transfers)
          (λ a. ap (λ (x : Transfer). passes (gathers x from p u)) (lacking o w r.transfers a) ∙ state_waits o w from p u)
      go false = as_was

  takes_fits : (s o w : ℕ) (q : List ℕ) → Fits r (takes_generator s r s (install o w q)) (takes_transfer s r (install o w q)) (takes_install s r o w q)
  unfolding takes_install keeps
  takes_fits s o w q = go (inside r.view w && member w s)
    where
      t : Transfer
      t = keeps (transfer_for o w r.transfers) q

      go : (b : Bool) → Fits r (b && (proposes_on t && lacks_generator r w)) (b && lacks_transfer r o w) (if b then tested r t else quietly r)
      go true = tested_fits t o w (found_old o w r.transfers) (found_new o w r.transfers)
          (λ a. ap (λ (x : Transfer). passes (keeps x q)) (lacking o w r.transfers a) ∙ install_waits o w q)
      go false = as_was

first_fits : (r : Relay) (g t : Bool) (ss : List Sending) (a : Answer Relay) → Fits r g t a → Fits r g t (sent_first ss a)
first_fits r g t ss (refused x) f = f
first_fits r g t ss (does n later e) f = f

-- a relay that was stopped has the tables that it had
stopped_fits : (r : Relay) (g t : Bool) (a : Answer Relay) → Fits (with_active r false) g t a → Fits r g t a
unfolding with_active
stopped_fits r g t (refused x) f = f
stopped_fits r g t (does n ss e) f = f

module _ (r : Relay) (few : Few r) where
  install_fits : (s from o w : ℕ) (q : List ℕ) → Fits r (takes_generator s r from (install o w q)) (takes_transfer s r (install o w q)) (install_heard s r o w q)
  unfolding install_heard with_active
  install_fits s from o w q =
      cases (Fits r g t) (early s r o) (λ _. tt)
      (λ _. first_fits r g t (handed s r o w) (takes_install s (stopped s r o w) o w q)
      (cases (λ (x : Relay). Fits r g t (takes_install s x o w q)) (member o s && inside r.view w) {x = with_active r false} {y = r}
      (λ _. stopped_fits r g t (takes_install s (with_active r false) o w q)
      (takes_fits (with_active r false) (record { generators = few.generators; transfers = few.transfers }) s o w q))
      (λ _. takes_fits r few s o w q)))
    where
      g : Bool
      g = takes_generator s r from (install o w q)

      t : Bool
      t = takes_transfer s r (install o w q)

  pub hears_fits : (s from : ℕ) (b : Body) → Fits r (takes_generator s r from b) (takes_transfer s r b) (relay_hears s r from b)
  unfolding relay_hears get_heard put_heard with_holds
  hears_fits s from (request u c) = request_fits r few from u c
  hears_fits s from (view v) = learns_fits r few v
  hears_fits s from (proposal v q) = turn_fits r few _ v ((proposal-leaves (generator_for v r.generators) from q).for ∙ view_of v r.generators)
  hears_fits s from (converged v q) = turn_fits r few _ v ((converged-leaves (generator_for v r.generators) from q).for ∙ view_of v r.generators)
  hears_fits s from (install o w q) = install_fits s from o w q
  hears_fits s from (state o w p u) = state_fits r few s from o w p u
  hears_fits s from (get try c) = cases (Fits r false false) (not (serves r c)) (λ _. tt)
      (λ _. cases (Fits r false false) (inside c r.view) (λ _. as_was r few) (λ _. as_was r few))
  hears_fits s from (put try c p) = cases (Fits r false false) (not (serves r c)) (λ _. tt)
      (λ _. cases (Fits r false false) (inside c r.view) (λ _. as_was r few) (λ _. as_was r few))
  hears_fits s from (view_reply try v) = as_was r few
  hears_fits s from (pair_reply try p) = as_was r few
  hears_fits s from (ack try) = as_was r few

-- The rules at a generator keep it good, leave its view, and send well and little. Assumes nothing.
use Rattle.std.specs.Prelude.{◌&&◌}
use mathlib.Core.Path.{◌≡◌, refl, sym, ap, ◌∙◌}
use mathlib.Core.Logic.{⊎_elim}
use mathlib.Core.Bool.{true, false, not, and-eq-true_iff}
use mathlib.Core.List.{List, [], ◌∷◌}
use Prim.Native.Nat.{ℕ, ◌+◌, ◌≤◌, ◌<◌}
use native.Mathlib.Omega.{arith}
use lib.Dec.{eqb, ltb, lit≤}
use lib.ListN.{length, set, length-set, length-append}
use borrow.Author.Tests.{ltb-true, eqb-true, not-true, lt-ltb, eq-eqb, ne_eqb}
use Rattle.views.proofs.Digits.{bit_of-bit_or}
use Rattle.views.proofs.Among.{has_first, lacks_self}
use Rattle.views.proofs.Merge.{above_heard, heard_contains}
use Rattle.views.proofs.Nested.{above_fact, above_test, above_first, above_small}
use Rattle.views.proofs.Sets.{inside_test, member_bit}
use Rattle.views.proofs.Truth.{contrary, either_true, true_left, true_right, cases}
use Rattle.rules.specs.Sets.{bit, members, member, lacks, conflict, least, most, some, same, plus, unite, heard, above, joined, none, all, all_hold}
use Rattle.rules.specs.Messages.{Sending, proposal, converged, install, to_members, to_both}
use Rattle.rules.specs.State.{Generator}
use Rattle.rules.specs.Generators.{fresh, generator_for, Turn, with_own, proposes, agree, hears, settles, proposal_heard, notes_converged, raises, converged_heard}
use Rattle.rules.specs.WellFormed.{is_view, all_from, good_note, good_notes, good_generator, good_move, good_installed, good_body}
use Rattle.rules.proofs.Hold.{hold_facts, hold_tests, from-set, all_parts}
use Rattle.rules.proofs.Sends.{SendWell, SendsWell, sends_none, sends_one, sends-append, has_members}

-- ---- a good generator, by names

pub record Gen (s : ℕ) (g : Generator) : Type 0 where
  pub small : g.view < 65536
  pub owner : member g.view s ≡ true
  pub own : above g.view g.own ≡ true
  pub converged : above g.view g.converged ≡ true
  pub raised : above g.view g.raised ≡ true
  pub contained : lacks g.converged g.own ≡ false
  pub proposals : good_notes g.view g.proposals ≡ true
  pub convergences : good_notes g.view g.convergences ≡ true

pub gen_facts : (s : ℕ) (g : Generator) → good_generator s g ≡ true → Gen s g
unfolding good_generator
gen_facts s g e =
    let h = hold_facts _ e in
    record {
      small = ltb-true _ _ h.0;
      owner = h.1.0;
      own = h.1.1.0;
      converged = h.1.1.1.0;
      raised = h.1.1.1.1.0;
      contained = not-true _ h.1.1.1.1.1.0;
      proposals = h.1.1.1.1.1.1.0;
      convergences = h.1.1.1.1.1.1.1.0;
    }

pub gen_tests : (s : ℕ) (g : Generator) → Gen s g → good_generator s g ≡ true
unfolding good_generator
gen_tests s g h =
    hold_tests _ (lt-ltb _ _ h.small, (h.owner, (h.own, (h.converged, (h.raised, (ap not h.contained, (h.proposals, (h.convergences, tt))))))))

-- what a rule at the generator for v leaves: a good generator for v, and good messages
pub record GoodTurn (s v : ℕ) (t : Turn) : Type 0 where
  pub next : Gen s t.next
  pub for : t.next.view ≡ v
  pub sendings : SendsWell s t.sendings

-- ---- fresh, looked up, put back

fresh_good : (s v : ℕ) → v < 65536 → member v s ≡ true → Gen s (fresh v)
unfolding fresh above some all_from
fresh_good s v h m = record { small = h; owner = m; own = refl; converged = refl; raised = refl; contained = refl; proposals = refl; convergences = refl }

pub looked_up : (s v : ℕ) (gs : List Generator) → v < 65536 → member v s ≡ true → all (good_generator s) gs ≡ true → Gen s (generator_for v gs)
unfolding generator_for
looked_up s v [] h m a = fresh_good s v h m
looked_up s v (g ∷ gs) h m a =
    let k = all_parts (good_generator s) g gs a in
    let r : Gen s (generator_for v gs) = looked_up s v gs h m k.1 in
    cases (Gen s) (eqb g.view v) (λ _. gen_facts s g k.0) (λ _. r)

pub view_of : (v : ℕ) (gs : List Generator) → (generator_for v gs).view ≡ v
unfolding generator_for fresh
view_of v [] = refl
view_of v (g ∷ gs) =
    let r : (generator_for v gs).view ≡ v = view_of v gs in
    cases (λ (h : Generator). h.view ≡ v) (eqb g.view v) (λ e. eqb-true g.view v e) (λ _. r)

-- ---- one note more

note_set : (v : ℕ) (ns : List (List ℕ)) (from : ℕ) (q : List ℕ) → good_notes v ns ≡ true → member v from ≡ true → above v q ≡ true → good_notes v (set ns from q) ≡ true
note_set v ns from q h m a =
    let k = (and-eq-true_iff (eqb (length ns) 8) (all_from 0 (good_note v) ns)).0 h in
    let z : 0 + from ≡ from = omega arith in
    let one : good_note v (0 + from) q ≡ true = rw z ((and-eq-true_iff _ _).1 (a, true_right (none q) m)) in
    rw (length-set ns from q) ((and-eq-true_iff _ _).1 (k.0, from-set (good_note v) 0 ns from q k.1 one))

-- ---- what goes to all members

module _ (s v : ℕ) (q : List ℕ) (h : v < 65536) (m : member v s ≡ true) (a : above v q ≡ true) (n : none q ≡ false) where
  to-all : (k : ℕ) → bit (members v) k ≡ true → all_hold (is_view v ∷ (member v s && member v k) ∷ above v q ∷ not (none q) ∷ []) ≡ true
  to-all k b = hold_tests _ (lt-ltb v 65536 h, ((and-eq-true_iff _ _).1 (m, member_bit v k ∙ b), (a, (ap not n, tt))))

  proposal_well : SendWell s (to_members v (proposal v q))
  unfolding good_body
  proposal_well k l b = to-all k b

  converged_well : SendWell s (to_members v (converged v q))
  unfolding good_body
  converged_well k l b = to-all k b

-- ---- Propose

module _ (s : ℕ) (g : Generator) (good : Gen s g) (q : List ℕ) (a : above g.view q ≡ true) (n : none q ≡ false) where
  own-none : (c o : List ℕ) → none o ≡ true → lacks c o ≡ false → lacks c q ≡ false
  unfolding some
  own-none [] o p e = refl
  own-none (x ∷ c) [] p e = absurd (contrary refl e)
  own-none (x ∷ c) (y ∷ o) p e = absurd (contrary p refl)

  pub propose_good : GoodTurn s g.view (proposes g q)
  unfolding proposes with_own
  propose_good =
      cases (GoodTurn s g.view) (none g.own)
      (λ e. record {
        next = record { small = good.small; owner = good.owner; own = a; converged = good.converged; raised = good.raised; contained = own-none g.converged g.own e good.contained; proposals = good.proposals; convergences = good.convergences };
        for = refl;
        sendings = sends_one s _ (proposal_well s g.view q good.small good.owner a n);
      })
      (λ _. record { next = good; for = refl; sendings = sends_none s })

-- ---- Proposal

plus-some : (v : ℕ) (l : List ℕ) → none (plus v l) ≡ false
unfolding plus
plus-some v [] = refl
plus-some v (w ∷ l) =
    let P : List ℕ → Type 0 = λ k. none k ≡ false in
    cases P (ltb v w) (λ _. refl) (λ _. cases P (eqb v w) (λ _. refl) (λ _. refl))

unite_some : (a b : List ℕ) → none a ≡ false → none (unite a b) ≡ false
unfolding unite
unite_some [] b n = absurd (contrary refl n)
unite_some (v ∷ a) b n = plus-some v (unite a b)

heard_some : (own conv q : List ℕ) → none q ≡ false → lacks q own ≡ true → none (heard own conv q) ≡ false
unfolding heard
heard_some own conv q n l =
    rw l (cases (λ (k : List ℕ). none k ≡ false) (conflict q own) (λ _. plus-some (joined (most own) (most q)) conv) (λ _. unite_some q own n))

-- own differs from converged, which it contains: so it is not empty
differ_some : (own conv : List ℕ) → lacks conv own ≡ false → not (same own conv) ≡ true → none own ≡ false
unfolding some same
differ_some [] [] l d = absurd (contrary d refl)
differ_some [] (x ∷ conv) l d = absurd (contrary refl l)
differ_some (x ∷ own) conv l d = refl

module _ (s : ℕ) (g : Generator) (good : Gen s g) (from : ℕ) (q : List ℕ) (f : member g.view from ≡ true) (a : above g.view q ≡ true) (n : none q ≡ false) where
  new_above : above g.view (heard g.own g.converged q) ≡ true
  new_above = above_test (above_heard (above_fact _ _ good.own) (above_fact _ _ good.converged) (above_fact _ _ a) good.contained)

  hears_good : GoodTurn s g.view (hears g from q)
  unfolding hears
  hears_good =
      record {
        next = record {
          small = good.small;
          owner = good.owner;
          own = new_above;
          converged = good.converged;
          raised = good.raised;
          contained = heard_contains g.own g.converged q good.contained;
          proposals = note_set g.view g.proposals from q good.proposals f a;
          convergences = good.convergences;
        };
        for = refl;
        sendings =
            cases (SendsWell s) (lacks q g.own)
            (λ e. sends_one s _ (proposal_well s g.view (heard g.own g.converged q) good.small good.owner new_above (heard_some g.own g.converged q n e)))
            (λ _. sends_none s);
      }

settles_good : (s : ℕ) (g : Generator) → Gen s g → GoodTurn s g.view (settles g)
unfolding settles
settles_good s g good =
    cases (GoodTurn s g.view) (not (same g.own g.converged) && agree g.view g.proposals g.own)
    (λ e. record {
      next = record { small = good.small; owner = good.owner; own = good.own; converged = good.own; raised = good.raised; contained = lacks_self g.own; proposals = good.proposals; convergences = good.convergences };
      for = refl;
      sendings = sends_one s _ (converged_well s g.view g.own good.small good.owner good.own (differ_some g.own g.converged good.contained ((and-eq-true_iff _ _).0 e).0));
    })
    (λ _. record { next = good; for = refl; sendings = sends_none s })

pub proposal_good : (s : ℕ) (g : Generator) → Gen s g → (from : ℕ) (q : List ℕ) → member g.view from ≡ true → above g.view q ≡ true → none q ≡ false
    → GoodTurn s g.view (proposal_heard g from q)
unfolding proposal_heard
proposal_good s g good from q f a n =
    let one = hears_good s g good from q f a n in
    let two = settles_good s (hears g from q).next one.next in
    record { next = two.next; for = two.for ∙ one.for; sendings = sends-append s _ _ one.sendings two.sendings }

-- ---- Converged

install_well : (s v : ℕ) (q : List ℕ) → member v s ≡ true → above v q ≡ true → none q ≡ false → SendWell s (to_both v (least q) (install v (least q) q))
unfolding good_body good_move good_installed
install_well s v [] m a n k l b = absurd (contrary refl n)
install_well s v (w ∷ ws) m a n k l b =
    let x = above_fact v (w ∷ ws) a in
    hold_tests _ (
      hold_tests _ (lt-ltb w 65536 (above_small x w (has_first w ws)), (ap not (ne_eqb (members v) 0 (has_members v s m)), (inside_test (above_first x), tt))),
      (
        hold_tests _ (refl, (a, (eq-eqb w w refl, tt))),
        (
          ⊎_elim (λ e. true_left _ ((and-eq-true_iff _ _).1 (m, member_bit v k ∙ e))) (λ e. true_right (member v s && member v k) ((and-eq-true_iff _ _).1 (m, member_bit w k ∙ e)))
              (either_true _ _ (sym (bit_of-bit_or k (members v) (members w)) ∙ b)),
          tt,
        ),
      ),
    )

pub converged_good : (s : ℕ) (g : Generator) → Gen s g → (from : ℕ) (q : List ℕ) → member g.view from ≡ true → above g.view q ≡ true → none q ≡ false
    → GoodTurn s g.view (converged_heard g from q)
unfolding converged_heard notes_converged raises
converged_good s g good from q f a n =
    let notes : good_notes g.view (set g.convergences from q) ≡ true = note_set g.view g.convergences from q good.convergences f a in
    cases (GoodTurn s g.view) (agree g.view (set g.convergences from q) q && not (same q g.raised))
    (λ _. record {
      next = record { small = good.small; owner = good.owner; own = good.own; converged = good.converged; raised = a; contained = good.contained; proposals = good.proposals; convergences = notes };
      for = refl;
      sendings = sends_one s _ (install_well s g.view q good.owner a n);
    })
    (λ _. record {
      next = record { small = good.small; owner = good.owner; own = good.own; converged = good.converged; raised = good.raised; contained = good.contained; proposals = good.proposals; convergences = notes };
      for = refl;
      sendings = sends_none s;
    })

-- ---- any generator, good or not: a rule leaves its view, and sends at most two things

-- t is for v, and sends at most n
pub record Leaves (v n : ℕ) (t : Turn) : Type 0 where
  pub for : t.next.view ≡ v
  pub few : length t.sendings ≤ n

module _ (g : Generator) where
  pub proposes-leaves : (q : List ℕ) → Leaves g.view 1 (proposes g q)
  unfolding proposes with_own
  proposes-leaves q = cases (Leaves g.view 1) (none g.own) (λ _. record { for = refl; few = lit≤ tt }) (λ _. record { for = refl; few = lit≤ tt })

  hears-leaves : (from : ℕ) (q : List ℕ) → Leaves g.view 1 (hears g from q)
  unfolding hears
  hears-leaves from q = record { for = refl; few = cases (λ (ss : List Sending). length ss ≤ 1) (lacks q g.own) (λ _. lit≤ tt) (λ _. lit≤ tt) }

  pub settles-leaves : Leaves g.view 1 (settles g)
  unfolding settles
  settles-leaves =
      cases (Leaves g.view 1) (not (same g.own g.converged) && agree g.view g.proposals g.own)
      (λ _. record { for = refl; few = lit≤ tt }) (λ _. record { for = refl; few = lit≤ tt })

  pub converged-leaves : (from : ℕ) (q : List ℕ) → Leaves g.view 1 (converged_heard g from q)
  unfolding converged_heard notes_converged raises
  converged-leaves from q =
      cases (Leaves g.view 1) (agree g.view (set g.convergences from q) q && not (same q g.raised))
      (λ _. record { for = refl; few = lit≤ tt }) (λ _. record { for = refl; few = lit≤ tt })

pub proposal-leaves : (g : Generator) (from : ℕ) (q : List ℕ) → Leaves g.view 2 (proposal_heard g from q)
unfolding proposal_heard
proposal-leaves g from q =
    let one = hears-leaves g from q in
    let two = settles-leaves (hears g from q).next in
    record { for = two.for ∙ one.for; few = simp length-append (omega (arith, one.few, two.few)) }

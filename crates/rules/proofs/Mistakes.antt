-- "What students will try", the three that are about these rules: each is ruled out. (The others are about views and stamps.) And what document 01 says though
-- demand 3 does not need it. Assumes nothing.
use Rattle.std.specs.Prelude.{if◌then◌else◌, ◌&&◌, ◌||◌}
use mathlib.Core.Path.{◌≡◌, refl, sym, ap}
use mathlib.Core.Logic.{◌≢◌}
use mathlib.Core.Bool.{true, false, not, and-eq-true_iff, and-false}
use mathlib.Core.List.{List, [], ◌∷◌, ◌++◌}
use Prim.Native.Nat.{ℕ, ◌<◌}
use native.Mathlib.Omega.{arith}
use lib.Dec.{eqb}
use lib.ListN.{length, get_or, set}
use lib.Seq.{get_or-set_same}
use borrow.Author.Tests.{eqb-true, not-true, not-false, ne_eqb}
use Rattle.views.proofs.Sets.{inside_lt, inside_fact}
use Rattle.views.proofs.Truth.{never_true, cases}
use Rattle.rules.specs.Sets.{member, inside, same, least, lacks, heard}
use Rattle.rules.specs.Stamps.{Pair}
use Rattle.rules.specs.Messages.{proposal, install, view_reply, pair_reply, ack, to_members, to_both, not_yet, refused, quietly}
use Rattle.rules.specs.State.{Desk, Generator, Transfer, Relay}
use Rattle.rules.specs.Generators.{Turn, agree, hears, settles, proposal_heard, notes_converged, raises, converged_heard}
use Rattle.rules.specs.Relays.{is_for, transfer_for, put_transfer, early, stopped, handed, takes_install, sent_first, install_heard}
use Rattle.rules.specs.Desks.{is_idle, is_first, is_second, current, view_came, pair_came, ack_came, desk_hears}
use Rattle.rules.specs.WellFormed.{good_move, good_relay}
use Rattle.rules.proofs.Relays.{rel_facts}
use Rattle.rules.proofs.Transfers.{move_facts, for_pair}

-- ---- "Letting a reply from an older try complete a quorum."
-- "A reply with another try, of the other phase's kind, from no member of the desk's view, or to an idle desk does nothing."

pub another_try : (d : Desk) (from try : ℕ) → try ≢ d.tries → current d from try ≡ false
another_try d from try h = never_true (current d from try) (λ e.
    h (eqb-true try _ ((and-eq-true_iff (eqb try _) (member d.view from)).0 ((and-eq-true_iff (not (is_idle d.phase)) _).0 e).1).0))

pub no_member : (d : Desk) (from try : ℕ) → member d.view from ≡ false → current d from try ≡ false
no_member d from try h = rw (h, and-false (eqb try d.tries)) (and-false (not (is_idle d.phase)))

pub idle_desk : (d : Desk) (from try : ℕ) → is_idle d.phase ≡ true → current d from try ≡ false
idle_desk d from try h = rw h

module _ (n : ℕ) (d : Desk) (from try : ℕ) where
  pub view_ignored : (v : ℕ) → current d from try ≡ false → desk_hears n d from (view_reply try v) ≡ quietly d
  unfolding desk_hears view_came
  view_ignored v h = rw h

  pub pair_ignored : (p : Pair) → current d from try && is_first d.phase ≡ false → desk_hears n d from (pair_reply try p) ≡ quietly d
  unfolding desk_hears pair_came
  pair_ignored p h = rw h

  pub ack_ignored : current d from try && is_second d.phase ≡ false → desk_hears n d from (ack try) ≡ quietly d
  unfolding desk_hears ack_came
  ack_ignored h = rw h

-- ---- "Sending state before entering." A member of o that has not entered must wait.

pub unentered_waits : (s : ℕ) (r : Relay) (o w : ℕ) (q : List ℕ) → good_relay s r ≡ true → good_move o w ≡ true → member o s ≡ true → r.entered ≡ false
    → install_heard s r o w q ≡ refused not_yet
unfolding install_heard
unentered_waits s r o w q g mv m e =
    let none : r.view ≡ 0 = eqb-true r.view 0 (not-false _ (not-true _ (rw e at (rel_facts s r g).entered))) in
    let other : eqb 0 o ≡ false = ne_eqb 0 o (λ z. (move_facts o w mv).some (sym z)) in
    let apart : inside o 0 ≡ false = never_true (inside o 0) (λ i. omega (arith, inside_lt (inside_fact o 0 i))) in
    let out : not (eqb 0 o || inside o 0) ≡ true = rw (other, apart) in
    let early-now : early s r o ≡ true = rw (m, none) out in
    rw early-now

-- ---- "Counting state of another pair." What is put back for one pair is not found for another.

pub other_pair : (o w : ℕ) (t : Transfer) (us : List Transfer) → is_for o w t ≡ false → transfer_for o w (put_transfer t us) ≡ transfer_for o w us
unfolding transfer_for put_transfer
other_pair o w t [] h = rw h
other_pair o w t (u ∷ us) h =
    let r : transfer_for o w (put_transfer t us) ≡ transfer_for o w us = other_pair o w t us h in
    cases (λ (l : List Transfer). transfer_for o w l ≡ (if is_for o w u then u else transfer_for o w us)) (is_for t.old t.new u)
    (λ e.
    let same = for_pair t.old t.new u e in
    rw (same.0, same.1, h))
    (λ _. rw r)

-- ---- What demand 3 does not need (docs/CERTIFICATE.md, "Demand 3"), and document 01 says all the same.

settles-proposals : (g : Generator) → (settles g).next.proposals ≡ g.proposals
unfolding settles
settles-proposals g = cases (λ (t : Turn). t.next.proposals ≡ g.proposals) (not (same g.own g.converged) && agree g.view g.proposals g.own) (λ _. refl) (λ _. refl)

module _ (g : Generator) (from : ℕ) (q : List ℕ) where
  -- "The newest note per sender stands for all received."
  pub newest_proposal : from < length g.proposals → get_or (proposal_heard g from q).next.proposals from [] ≡ q
  unfolding proposal_heard hears
  newest_proposal h = rw (settles-proposals (hears g from q).next) (get_or-set_same g.proposals from q [] h)

  pub newest_convergence : from < length g.convergences → get_or (converged_heard g from q).next.convergences from [] ≡ q
  unfolding converged_heard raises notes_converged
  newest_convergence h =
      cases (λ (t : Turn). get_or t.next.convergences from [] ≡ q) (agree g.view (set g.convergences from q) q && not (same q g.raised))
      (λ _. get_or-set_same g.convergences from q [] h) (λ _. get_or-set_same g.convergences from q [] h)

  -- "If a quorum's last notes equal q and q is not the last raised, raise it": a grown one too
  pub grown_raised : agree g.view (notes_converged g from q).convergences q ≡ true → same q g.raised ≡ false
      → (converged_heard g from q).sendings ≡ to_both g.view (least q) (install g.view (least q) q) ∷ []
  unfolding converged_heard
  grown_raised a d = rw (a, d)

-- "if [..] a quorum of v's last noted proposals equal own, converged becomes own and goes out to all members": without one neither
settles-none : (g : Generator) → agree g.view g.proposals g.own ≡ false → settles g ≡ record { next = g; sendings = [] }
unfolding settles
settles-none g h = rw (h, and-false (not (same g.own g.converged)))

module _ (g : Generator) (from : ℕ) (q : List ℕ) (h : agree g.view (set g.proposals from q) (heard g.own g.converged q) ≡ false) where
  pub no_quorum : ((proposal_heard g from q).next.converged ≡ g.converged)
      × ((proposal_heard g from q).sendings ≡ (if lacks q g.own then to_members g.view (proposal g.view (heard g.own g.converged q)) ∷ [] else []) ++ [])
  unfolding proposal_heard hears
  no_quorum = let none = settles-none (hears g from q).next h in (ap (λ (t : Turn). t.next.converged) none, ap (λ (t : Turn). (hears g from q).sendings ++ t.sendings) none)

-- "If its view is inside w and it is a member of w, the transfer keeps q": no member keeps one, and only stops and hands on
pub no_member_keeps : (s : ℕ) (r : Relay) (o w : ℕ) (q : List ℕ) → member w s ≡ false → early s r o ≡ false
    → install_heard s r o w q ≡ sent_first (handed s r o w) (quietly (stopped s r o w))
unfolding install_heard takes_install
no_member_keeps s r o w q h e = rw (e, h, and-false (inside (stopped s r o w).view w))

-- "A view reply that strictly includes the desk's view is adopted [..]; any other does nothing."
pub other_view_lem : (n : ℕ) (d : Desk) (from try v : ℕ) → inside d.view v ≡ false → desk_hears n d from (view_reply try v) ≡ quietly d
unfolding desk_hears view_came
other_view_lem n d from try v h = rw (h, and-false (current d from try))

-- What fits its room in the image, and that all of a good world does. Assumes nothing.
use Rattle.std.specs.Prelude.{◌&&◌, ◌||◌}
use mathlib.Core.Path.{◌≡◌, refl}
use mathlib.Core.Logic.{◌≢◌, ⊎_elim}
use mathlib.Core.Bool.{Bool, true, not, and-eq-true_iff}
use mathlib.Core.List.{List, [], ◌∷◌}
use Prim.Native.Nat.{ℕ, zero, suc, ◌≤◌, ◌<◌}
use native.Mathlib.Nat.{le_of_suc-le-suc}
use native.Mathlib.Omega.{arith}
use lib.Dec.{eqb, ltb, leb, lit≤, lit<}
use lib.ListN.{length, get_or, replicate}
use borrow.Author.Tests.{eqb-true, ltb-true, leb-true, ne_eqb}
use Rattle.views.proofs.Truth.{either_true, contrary}
use Rattle.views.proofs.Sets.{within_le, within_fact, inside_fact, inside_lt, members_lt, member_lt, member_not_empty}
use Rattle.views.proofs.Nested.{Above, above_none, above_more, above_fact, above_fits}
use Rattle.rules.specs.Sets.{member, members, within, above, none, all, all_hold}
use Rattle.rules.specs.Stamps.{Pair, zero_pair}
use Rattle.rules.specs.Messages.{Body, request, view, proposal, converged, install, state, get, put, view_reply, pair_reply, ack, Message}
use Rattle.rules.specs.State.{Generator, Transfer, Relay, Place, free, waiting}
use Rattle.rules.specs.declared.Desk.{Desk}
use Rattle.rules.specs.declared.Phase.{Phase}
use Rattle.rules.specs.declared.Phase.TheVariants.{Idle, Read1, Read2, Write1, Write2}
use Rattle.rules.specs.Generators.{fresh}
use Rattle.rules.specs.Relays.{fresh_transfer}
use Rattle.rules.specs.WellFormed.{is_view, is_stamp, is_pair, is_zero_pair, implies, all_from, distinct, good_note, good_notes, good_generator, good_move, good_installed, good_transfer, other_view, other_move, good_generators, good_transfers, good_relay, good_best, no_best, good_phase, good_desk, is_desk, between, asked, replied, good_body, good_place}
use Rattle.layout.specs.Image.{filled_generator, filled_transfer, Row, row, body_row, place_row}
use Rattle.rules.proofs.Serving.{update_small}
use Rattle.rules.proofs.Hold.{hold_facts, from_at, all_parts}

-- ---- what fits

pub record SequenceFits (q : List ℕ) : Type 0 where
  pub few : length q ≤ 15
  pub each : (k : ℕ) → get_or q k 0 < 65536

pub record PairFits (p : Pair) : Type 0 where
  pub count : p.stamp.count < 65536
  pub desk : p.stamp.desk < 256
  pub value : p.value < 4294967296

pub record NotesFit (ns : List (List ℕ)) : Type 0 where
  pub long : length ns ≡ 8
  pub each : (k : ℕ) → SequenceFits (get_or ns k [])

pub record GeneratorFits (g : Generator) : Type 0 where
  pub view : g.view < 65536
  pub own : SequenceFits g.own
  pub converged : SequenceFits g.converged
  pub raised : SequenceFits g.raised
  pub proposals : NotesFit g.proposals
  pub convergences : NotesFit g.convergences

pub record TransferFits (t : Transfer) : Type 0 where
  pub old : t.old < 65536
  pub new : t.new < 65536
  pub sequence : SequenceFits t.sequence
  pub senders : t.senders < 256
  pub best : PairFits t.best
  pub gathered : t.gathered < 65536

-- up to 8 rows that fit and are filled; d's for the others
pub record RowsFit {A : Type 0} (Fits : A → Type 0) (filled : A → Bool) (d : A) (xs : List A) : Type 0 where
  pub few : length xs ≤ 8
  pub each : (k : ℕ) → Fits (get_or xs k d)
  pub full : (k : ℕ) → k < length xs → filled (get_or xs k d) ≡ true

pub record RelayFits (r : Relay) : Type 0 where
  pub view : r.view < 65536
  pub known : r.known < 65536
  pub pending : r.pending < 65536
  pub holds : PairFits r.holds
  pub generators : RowsFit GeneratorFits filled_generator (fresh 0) r.generators
  pub transfers : RowsFit TransferFits filled_transfer (fresh_transfer 0 0) r.transfers

pub record DeskFits (d : Desk) : Type 0 where
  pub view : d.view < 65536
  pub tries : d.tries < 65536
  pub holds : PairFits d.holds
  pub replied : d.replied < 256
  pub best : PairFits d.best

pub record RowFits (m : Row) : Type 0 where
  pub kind : m.kind < 256
  pub from : m.from < 256
  pub to : m.to < 256
  pub first : m.first < 65536
  pub second : m.second < 65536
  pub tries : m.tries < 65536
  pub sequence : SequenceFits m.sequence
  pub pair : PairFits m.pair
  pub updates : m.updates < 65536

-- ---- a sequence

pub no_views : SequenceFits []
no_views = record { few = lit≤ tt; each = λ k. lit< tt }

above_each : {v : ℕ} {q : List ℕ} → Above v q → (k : ℕ) → get_or q k 0 < 65536
above_each above_none k = lit< tt
above_each (above_more i h a) zero = h
above_each (above_more i h a) (suc k) = above_each a k

pub above_fit : (v : ℕ) (q : List ℕ) → v < 65536 → v ≢ 0 → above v q ≡ true → SequenceFits q
above_fit v q small update e =
    let a = above_fact v q e in
    record { few = above_fits small update a; each = above_each a }

-- ---- a pair

pub pair_fits : (p : Pair) → is_pair p ≡ true → PairFits p
unfolding is_pair
pair_fits p e =
    let h = (and-eq-true_iff (is_stamp p.stamp) (ltb p.value 4294967296)).0 e in
    let k = (and-eq-true_iff (ltb p.stamp.count 65536) (ltb p.stamp.desk 4)).0 h.0 in
    let few = ltb-true p.stamp.desk 4 k.1 in
    record { count = ltb-true p.stamp.count 65536 k.0; desk = omega arith; value = ltb-true p.value 4294967296 h.1 }

pub zero_fits : (p : Pair) → is_zero_pair p ≡ true → PairFits p
zero_fits p e =
    let h = (and-eq-true_iff (eqb p.stamp.count 0 && eqb p.stamp.desk 0) (eqb p.value 0)).0 e in
    let k = (and-eq-true_iff (eqb p.stamp.count 0) (eqb p.stamp.desk 0)).0 h.0 in
    let c = eqb-true p.stamp.count 0 k.0 in
    let d = eqb-true p.stamp.desk 0 k.1 in
    let v = eqb-true p.value 0 h.1 in
    record { count = omega arith; desk = omega arith; value = omega arith }

no_pair : PairFits zero_pair
no_pair = zero_fits zero_pair refl

-- ---- a set of members

mask_fits : (who v : ℕ) → within who (members v) ≡ true → who < 256
mask_fits who v e = omega (arith, within_le (within_fact who (members v) e), members_lt v)

-- ---- a generator

notes_fit : (v : ℕ) (ns : List (List ℕ)) → v < 65536 → v ≢ 0 → good_notes v ns ≡ true → NotesFit ns
unfolding above
notes_fit v ns small update e =
    let h = (and-eq-true_iff (eqb (length ns) 8) (all_from 0 (good_note v) ns)).0 e in
    record {
      long = eqb-true (length ns) 8 h.0;
      each = λ k. above_fit v (get_or ns k []) small update ((and-eq-true_iff (above v (get_or ns k [])) _).0 (from_at (good_note v) 0 ns k [] h.1 refl)).0;
    }

pub generator_fits : (s : ℕ) (g : Generator) → good_generator s g ≡ true → GeneratorFits g
unfolding good_generator
generator_fits s g e =
    let h = hold_facts _ e in
    let v : ℕ = g.view in
    let small = ltb-true v 65536 h.0 in
    let update = member_not_empty v s h.1.0 in
    record {
      view = small;
      own = above_fit v g.own small update h.1.1.0;
      converged = above_fit v g.converged small update h.1.1.1.0;
      raised = above_fit v g.raised small update h.1.1.1.1.0;
      proposals = notes_fit v g.proposals small update h.1.1.1.1.1.1.0;
      convergences = notes_fit v g.convergences small update h.1.1.1.1.1.1.1.0;
    }

pub generator_filled : (s : ℕ) (g : Generator) → good_generator s g ≡ true → filled_generator g ≡ true
unfolding good_generator
generator_filled s g e = rw (ne_eqb g.view 0 (member_not_empty g.view s (hold_facts _ e).1.0))

pub replicate_at : {A : Type 0} (n k : ℕ) (d : A) → get_or (replicate n d) k d ≡ d
replicate_at zero k d = refl
replicate_at (suc n) zero d = refl
replicate_at (suc n) (suc k) d = replicate_at n k d

no_notes_lem : NotesFit (replicate 8 [])
no_notes_lem = record { long = refl; each = λ k. rw (replicate_at {A = List ℕ} 8 k []) no_views }

pub no_generator : GeneratorFits (fresh 0)
unfolding fresh
no_generator = record { view = lit< tt; own = no_views; converged = no_views; raised = no_views; proposals = no_notes_lem; convergences = no_notes_lem }

-- ---- a transfer

-- what a good move's old view is
old-view : (o w : ℕ) → good_move o w ≡ true → (o < 65536) × ((w < 65536) × (o ≢ 0))
unfolding good_move
old-view o w e =
    let h = hold_facts _ e in
    let small = ltb-true w 65536 h.0 in
    let lower = inside_lt (inside_fact o w h.1.1.0) in
    (omega arith, (small, λ z. contrary (rw z at h.1.0) refl))

plan_fits : (o w : ℕ) (q : List ℕ) → good_move o w ≡ true → good_installed o w q ≡ true → SequenceFits q
unfolding good_installed
plan_fits o w q m p = let h = old-view o w m in above_fit o q h.0 h.1.1 (hold_facts _ p).1.0

pub transfer_fits : (s : ℕ) (t : Transfer) → good_transfer s t ≡ true → TransferFits t
unfolding good_transfer
transfer_fits s t e =
    let h = hold_facts _ e in
    let v = old-view t.old t.new h.1.0 in
    record {
      old = v.0;
      new = v.1.0;
      sequence = go t.sequence h.1.0 h.1.1.0;
      senders = mask_fits t.senders t.old h.1.1.1.0;
      best = pair_fits t.best h.1.1.1.1.0;
      gathered = ltb-true t.gathered 65536 h.1.1.1.1.1.0;
    }
  where
    go : (q : List ℕ) → good_move t.old t.new ≡ true → none q || good_installed t.old t.new q ≡ true → SequenceFits q
    go [] m p = no_views
    go (w ∷ q) m p = plan_fits t.old t.new (w ∷ q) m p

pub transfer_filled : (s : ℕ) (t : Transfer) → good_transfer s t ≡ true → filled_transfer t ≡ true
unfolding good_transfer
transfer_filled s t e = rw (ne_eqb t.new 0 (member_not_empty t.new s (hold_facts _ e).0))

pub no_transfer : TransferFits (fresh_transfer 0 0)
unfolding fresh_transfer
no_transfer = record { old = lit< tt; new = lit< tt; sequence = no_views; senders = lit< tt; best = no_pair; gathered = lit< tt }

-- ---- a relay

module _ {A : Type 0} (good : A → Bool) (Fits : A → Type 0) (filled : A → Bool) (d : A)
    (fits : (x : A) → good x ≡ true → Fits x) (none-fits : Fits d) (fill : (x : A) → good x ≡ true → filled x ≡ true) where
  each_fits : (xs : List A) → all good xs ≡ true → (k : ℕ) → Fits (get_or xs k d)
  each_fits [] e k = none-fits
  each_fits (x ∷ xs) e zero = fits x (all_parts good x xs e).0
  each_fits (x ∷ xs) e (suc k) = each_fits xs (all_parts good x xs e).1 k

  each_filled : (xs : List A) → all good xs ≡ true → (k : ℕ) → k < length xs → filled (get_or xs k d) ≡ true
  each_filled [] e k h = absurd (omega arith)
  each_filled (x ∷ xs) e zero h = fill x (all_parts good x xs e).0
  each_filled (x ∷ xs) e (suc k) h = each_filled xs (all_parts good x xs e).1 k (le_of_suc-le-suc h)

  rows_fit : (differ : A → A → Bool) (xs : List A) → all_hold (leb (length xs) 8 ∷ all good xs ∷ distinct differ xs ∷ []) ≡ true → RowsFit Fits filled d xs
  rows_fit differ xs e =
      let h = hold_facts _ e in
      record { few = leb-true (length xs) 8 h.0; each = each_fits xs h.1.0; full = each_filled xs h.1.0 }

pub relay_fits : (s : ℕ) (r : Relay) → good_relay s r ≡ true → RelayFits r
unfolding good_relay good_generators good_transfers
relay_fits s r e =
    let h = hold_facts _ e in
    record {
      view = ltb-true r.view 65536 h.0;
      known = ltb-true r.known 65536 h.1.0;
      pending = ltb-true r.pending 65536 h.1.1.0;
      holds = pair_fits r.holds h.1.1.1.0;
      generators =
          rows_fit (good_generator s) GeneratorFits filled_generator (fresh 0) (generator_fits s) no_generator (generator_filled s) other_view r.generators
          h.1.1.1.1.1.1.0;
      transfers =
          rows_fit (good_transfer s) TransferFits filled_transfer (fresh_transfer 0 0) (transfer_fits s) no_transfer (transfer_filled s) other_move r.transfers
          h.1.1.1.1.1.1.1.0;
    }

-- ---- a desk

best_fits : (d : Desk) → good_best d ≡ true → PairFits d.best
best_fits d e = pair_fits d.best ((and-eq-true_iff (is_pair d.best) (implies (eqb d.replied 0) (no_best d))).0 e).0

no_best_fits : (d : Desk) → no_best d ≡ true → PairFits d.best
no_best_fits d e = zero_fits d.best ((and-eq-true_iff (is_zero_pair d.best) (not d.agreed)).0 e).0

pairs_fit : (p : Phase) (d : Desk) → good_phase p d ≡ true → PairFits d.holds × PairFits d.best
unfolding good_phase
pairs_fit Idle d e = let h = hold_facts _ e in (zero_fits d.holds h.0, no_best_fits d h.1.1.0)
pairs_fit Read1 d e = let h = hold_facts _ e in (zero_fits d.holds h.0, best_fits d h.1.0)
pairs_fit Read2 d e = let h = hold_facts _ e in (pair_fits d.holds h.0, no_best_fits d h.1.0)
pairs_fit Write1 d e = let h = hold_facts _ e in (pair_fits d.holds h.0, best_fits d h.1.1.1.0)
pairs_fit Write2 d e = let h = hold_facts _ e in (pair_fits d.holds h.0, no_best_fits d h.1.0)

pub desk_fits : (d : Desk) → good_desk d ≡ true → DeskFits d
unfolding good_desk
desk_fits d e =
    let h = hold_facts _ e in
    let p = pairs_fit d.phase d h.1.1.1.0 in
    record { view = ltb-true d.view 65536 h.0; tries = ltb-true d.tries 65536 h.1.0; holds = p.0; replied = mask_fits d.replied d.view h.1.1.0; best = p.1 }

-- ---- a message

numbers_fit : {kind s r first second tries updates : ℕ} {q : List ℕ} {p : Pair}
    → kind < 256 → (s < 256) × (r < 256) → first < 65536 → second < 65536 → tries < 65536 → SequenceFits q → PairFits p → updates < 65536
    → RowFits (row kind s r first second tries q p updates)
numbers_fit k e a b t q p u = record { kind = k; from = e.0; to = e.1; first = a; second = b; tries = t; sequence = q; pair = p; updates = u }

-- a sequence that goes between members of v
kept_fits : (m : Message) (v : ℕ) (q : List ℕ) → all_hold (is_view v ∷ between v v m ∷ above v q ∷ not (none q) ∷ []) ≡ true → (v < 65536) × SequenceFits q
kept_fits m v q e =
    let h = hold_facts _ e in
    let small = ltb-true v 65536 h.0 in
    let someone = ((and-eq-true_iff (member v m.from) (member v m.to)).0 h.1.0).0 in
    (small, above_fit v q small (member_not_empty v m.from someone) h.1.1.0)

-- sender and receiver
both_members : (v w : ℕ) (m : Message) → between v w m ≡ true → (m.from < 256) × (m.to < 256)
both_members v w m e =
    let h = (and-eq-true_iff (member v m.from) (member w m.to)).0 e in
    let a = member_lt v m.from h.0 in
    let b = member_lt w m.to h.1 in
    (omega arith, omega arith)

desk_small : (who : ℕ) → is_desk who ≡ true → who < 256
desk_small who e = omega (arith, ltb-true who 12 ((and-eq-true_iff (leb 8 who) (ltb who 12)).0 e).1)

ends_asked : (c : ℕ) (m : Message) → asked c m ≡ true → (m.from < 256) × (m.to < 256)
ends_asked c m e =
    let h = (and-eq-true_iff (is_desk m.from) (member c m.to)).0 e in
    (desk_small m.from h.0, omega (arith, member_lt c m.to h.1))

ends_replied : (m : Message) → replied m ≡ true → (m.from < 256) × (m.to < 256)
ends_replied m e =
    let h = (and-eq-true_iff (ltb m.from 8) (is_desk m.to)).0 e in
    (omega (arith, ltb-true m.from 8 h.0), desk_small m.to h.1)

ends_fit : (m : Message) (b : Body) → good_body m b ≡ true → (m.from < 256) × (m.to < 256)
unfolding good_body
ends_fit m (request u c) e =
    let h = hold_facts _ e in
    (omega (arith, ltb-true m.from 8 h.0), omega (arith, member_lt c m.to h.1.1.1.0))
ends_fit m (view v) e = let h = hold_facts _ e in (omega (arith, ltb-true m.from 8 h.0), omega (arith, ltb-true m.to 8 h.1.0))
ends_fit m (proposal v q) e = both_members v v m (hold_facts _ e).1.0
ends_fit m (converged v q) e = both_members v v m (hold_facts _ e).1.0
ends_fit m (install o w q) e = ⊎_elim (both_members o o m) (both_members o w m) (either_true (between o o m) (between o w m) (hold_facts _ e).1.1.0)
ends_fit m (state o w p u) e = both_members o w m (hold_facts _ e).1.0
ends_fit m (get try c) e = ends_asked c m (hold_facts _ e).1.1.0
ends_fit m (put try c p) e = ends_asked c m (hold_facts _ e).1.1.0
ends_fit m (view_reply try v) e = ends_replied m (hold_facts _ e).1.1.0
ends_fit m (pair_reply try p) e = ends_replied m (hold_facts _ e).1.1.0
ends_fit m (ack try) e = ends_replied m (hold_facts _ e).1.0

body_fits : (m : Message) (b : Body) → good_body m b ≡ true → RowFits (body_row m.from m.to b)
unfolding good_body
body_fits m (request u c) e =
    let h = hold_facts _ e in
    numbers_fit (lit< tt) (ends_fit m (request u c) e) (ltb-true c 65536 h.1.0) (lit< tt) (lit< tt) no_views no_pair (update_small m.from u c (ltb-true m.from 8 h.0) h.1.1.0)
body_fits m (view v) e = numbers_fit (lit< tt) (ends_fit m (view v) e) (ltb-true v 65536 (hold_facts _ e).1.1.0) (lit< tt) (lit< tt) no_views no_pair (lit< tt)
body_fits m (proposal v q) e = let h = kept_fits m v q e in numbers_fit (lit< tt) (ends_fit m (proposal v q) e) h.0 (lit< tt) (lit< tt) h.1 no_pair (lit< tt)
body_fits m (converged v q) e = let h = kept_fits m v q e in numbers_fit (lit< tt) (ends_fit m (converged v q) e) h.0 (lit< tt) (lit< tt) h.1 no_pair (lit< tt)
body_fits m (install o w q) e =
    let h = hold_facts _ e in
    let v = old-view o w h.0 in
    numbers_fit (lit< tt) (ends_fit m (install o w q) e) v.0 v.1.0 (lit< tt) (plan_fits o w q h.0 h.1.0) no_pair (lit< tt)
body_fits m (state o w p u) e =
    let h = hold_facts _ e in
    let v = old-view o w h.0 in
    numbers_fit (lit< tt) (ends_fit m (state o w p u) e) v.0 v.1.0 (lit< tt) no_views (pair_fits p h.1.1.0) (ltb-true u 65536 h.1.1.1.0)
body_fits m (get try c) e = let h = hold_facts _ e in numbers_fit (lit< tt) (ends_fit m (get try c) e) (ltb-true c 65536 h.1.0) (lit< tt) (ltb-true try 65536 h.0) no_views no_pair (lit< tt)
body_fits m (put try c p) e =
    let h = hold_facts _ e in
    numbers_fit (lit< tt) (ends_fit m (put try c p) e) (ltb-true c 65536 h.1.0) (lit< tt) (ltb-true try 65536 h.0) no_views (pair_fits p h.1.1.1.0) (lit< tt)
body_fits m (view_reply try v) e = let h = hold_facts _ e in numbers_fit (lit< tt) (ends_fit m (view_reply try v) e) (ltb-true v 65536 h.1.0) (lit< tt) (ltb-true try 65536 h.0) no_views no_pair (lit< tt)
body_fits m (pair_reply try p) e = let h = hold_facts _ e in numbers_fit (lit< tt) (ends_fit m (pair_reply try p) e) (lit< tt) (lit< tt) (ltb-true try 65536 h.0) no_views (pair_fits p h.1.0) (lit< tt)
body_fits m (ack try) e = numbers_fit (lit< tt) (ends_fit m (ack try) e) (lit< tt) (lit< tt) (ltb-true try 65536 (hold_facts _ e).0) no_views no_pair (lit< tt)

pub place_fits : (p : Place) → good_place p ≡ true → RowFits (place_row p)
unfolding good_place
place_fits free e = numbers_fit (lit< tt) (lit< tt, lit< tt) (lit< tt) (lit< tt) (lit< tt) no_views no_pair (lit< tt)
place_fits (waiting m) e = body_fits m m.body e

-- Replies at a desk: noted for the try and the view that asked, and at a quorum the phase settles or the operation ends. Assumes nothing.
use Rattle.std.specs.Prelude.{if◌then◌else◌}
use mathlib.Core.Path.{◌≡◌, refl, sym, subst, ap, ◌∙◌}
use mathlib.Core.Logic.{◌⊎◌, inl, inr, ⊎_elim}
use mathlib.Core.Bool.{Bool, true, false, not, ◌&&◌, false≢true, and-eq-true_iff}
use mathlib.Core.List.Memᴰ
use mathlib.Core.List.{[], ◌∷◌}
use Prim.Native.Nat.{ℕ, suc, ◌+◌, ◌*◌, ◌/◌, ◌^◌, ◌<◌}
use native.Mathlib.Omega.{arith}
use lib.Dec.{eqb}
use lib.Bits.{bit_or}
use borrow.Author.Tests.{eqb-true, eq-eqb, not-true}
use Rattle.views.specs.View.{bit_of, reaches_of}
use Rattle.views.proofs.Truth.{contrary, cases, either_true, true_right}
use Rattle.views.proofs.Digits.{bit_none, bit_of-bit_or, bit_one}
use Rattle.rules.specs.Sets.{member, reaches}
use Rattle.rules.specs.Stamps.{Value, Pair, same_stamp}
use Rattle.rules.specs.Messages.{Body, request, view, proposal, converged, install, state as state_says, get as get_says, put as put_says, view_reply, pair_reply, ack, Event}
use Rattle.rules.specs.declared.Desk.{Desk}
use Rattle.rules.specs.declared.Phase.{Phase}
use Rattle.rules.specs.declared.Phase.TheVariants.{Read1, Read2, Write1, Write2}
use Rattle.rules.specs.Desks.{ended, is_idle, is_first, is_second, full, current, agrees, notes_pair, notes_ack, takes_stamp, completes, counted, pair_came, ack_came, desk_hears}
use Rattle.safety.proofs.Setting.{Setting}
use Rattle.safety.proofs.Lists.{all_none}
use Rattle.safety.proofs.Quorums.{Most}
use Rattle.safety.proofs.Numbers.{num, Small, Greater, takes, stays, greatest_num, greatest_small, same_num}
use Rattle.safety.proofs.Log.{reading, writing, Op, Ask, get, put, tag, Log, ◌∋◌, ask, reply, settle, finish, agreed, Sound}
use Rattle.safety.proofs.Past.{sound_more}
use Rattle.safety.proofs.Operations.{reply_view}
use Rattle.safety.proofs.Growth.{stay, add}
use Rattle.safety.proofs.DeskFacts.{DeskFacts, Doing, asks as asks-now, puts as puts-now, Stage, resting, asking, putting, settle_justified, put_justified, desk_puts, at_once_justified, desk_rests_at_once, finish_justified, desk_rests}
use Rattle.safety.proofs.Notes.{Notes, note_greater, note_other, Replies, read_justified, write_justified}
use Rattle.safety.proofs.Ties.{Firsts, Acks, Phased, at_rest, at_read1, at_write1, at_read2, at_write2, DeskTied, Backed}
use Rattle.safety.proofs.DeskSteps.{Asking, Says, DeskStep, DeskDone, ends, says_read, says_write, clear_acks, still, begins-done, view-done}

-- ---- noting a reply

or_full : (m j : ℕ) → bit_or m (2 ^ j) ≡ 0 → ⊥
or_full m j e = contrary (bit_of-bit_or j m (2 ^ j) ∙ true_right (bit_of m j) (bit_one j j ∙ eq-eqb j j refl)) (ap (λ (x : ℕ). bit_of x j) e ∙ bit_none j)

or_cases : (m j k : ℕ) → bit_of (bit_or m (2 ^ j)) k ≡ true → (bit_of m k ≡ true) ⊎ (k ≡ j)
or_cases m j k e = ⊎_elim (λ h. inl h) (λ h. inr (eqb-true k j (sym (bit_one k j) ∙ h))) (either_true (bit_of m k) (bit_of (2 ^ j) k) (sym (bit_of-bit_or k m (2 ^ j)) ∙ e))

-- the first reply, or all before had the best one's stamp and this one has it
data Agreed (d : Desk) (p : Pair) : Type 0 where
  alone : d.replied ≡ 0 → Agreed d p
  alike : d.agreed ≡ true → num p.stamp ≡ num d.best.stamp → Agreed d p

module _ {l : Log} {n : ℕ} (d : Desk) (from : ℕ) where
  pub pair_noted : (p : Pair) → Firsts l n d → l ∋ reply from n d.tries d.view (num p.stamp) p.value → Small p → Firsts l n (notes_pair d from p)
  unfolding notes_pair
  pair_noted p F m s = record {
    notes = notes (greatest_num d.best p F.small s);
    small = greatest_small d.best p F.small s;
    clean = λ e. absurd (or_full d.replied from e);
    agreed = λ e k b. agreed_all e (greatest_num d.best p F.small s) k b;
  }
    where
      notes : {b : Pair} → Greater d.best p b → Notes (Replies l n d.tries d.view) (bit_or d.replied (2 ^ from)) (num b.stamp) b.value
      notes (takes g) = note_greater F.notes m g
      notes (stays g) = note_other F.notes m g

      how : agrees d p ≡ true → Agreed d p
      how e = go (eqb d.replied 0) refl e
        where
          go : (b : Bool) → eqb d.replied 0 ≡ b → (if b then true else d.agreed && same_stamp p.stamp d.best.stamp) ≡ true → Agreed d p
          go true z e = alone (eqb-true d.replied 0 z)
          go false z e =
              let h = (and-eq-true_iff d.agreed (same_stamp p.stamp d.best.stamp)).0 e in
              alike h.0 (same_num p.stamp d.best.stamp h.1)

      one : Agreed d p → {b : Pair} → Greater d.best p b → num p.stamp ≡ num b.stamp
      one a (takes g) = refl
      one (alone z) (stays g) = omega (arith, F.clean z)
      one (alike z e) (stays g) = e

      old : Agreed d p → {b : Pair} → Greater d.best p b → (k : ℕ) → bit_of d.replied k ≡ true
          → (z : Value) × (l ∋ reply k n d.tries d.view (num b.stamp) z)
      old (alone z) g k b = absurd (contrary (rw z at b) (bit_none k))
      old (alike z e) (takes g) k b = absurd (omega arith)
      old (alike z e) (stays g) k b = F.agreed z k b

      new : {k x : ℕ} → k ≡ from → num p.stamp ≡ x → l ∋ reply k n d.tries d.view x p.value
      new {k} h e = subst (λ (i : ℕ). l ∋ reply k n d.tries d.view i p.value) e (rw h m)

      agreed_all : agrees d p ≡ true → {b : Pair} → Greater d.best p b → (k : ℕ) → bit_of (bit_or d.replied (2 ^ from)) k ≡ true
          → (z : Value) × (l ∋ reply k n d.tries d.view (num b.stamp) z)
      agreed_all e {b} g k i = ⊎_elim (λ h. old (how e) g k h) (λ h. (p.value, new h (one (how e) g))) (or_cases d.replied from k i)

  pub ack_noted : {o : Op} → Acks l n d o → (s : ℕ) × (z : Value) × (l ∋ reply from n d.tries d.view s z) → Acks l n (notes_ack d from) o
  unfolding notes_ack
  ack_noted A m = record {
    each = λ k b. ⊎_elim (λ h. A.each k h) (λ h. rw h m) (or_cases d.replied from k b);
    stamp_is = A.stamp_is;
    value_is = A.value_is;
    small = A.small;
  }

-- ---- "At a quorum of replies: .."

settles_on : {o : Op} → Asking o.desk (settle o)
settles_on = (refl, (λ d t a c. omega (arith, ap tag c), λ o c. omega (arith, ap tag c)))

module _ {C : Setting} {l : Log} {n : ℕ} (S : Sound C l) (s : n < 4) (d : Desk) (q : reaches_of d.view d.replied ≡ true) where
  -- "read 1 ends with event 2 if all stamps agreed, else read 2 puts back the greatest"
  read1_done : {m : ℕ} → Firsts l n d → DeskFacts l n d.tries d.view (asking m reading) → DeskDone C l n (completes n d Read1)
  unfolding completes
  read1_done {m} F f =
      let r : ℕ = num d.best.stamp in
      let y : Value = d.best.value in
      let o : Op = record { desk = n; try = m; task = reading; stamp = r; value = y } in
      let S1 : Sound C (settle o ∷ l) = sound_more (settle o) S (settle_justified f r y (read_justified q F.notes)) in
      cases (DeskDone C l n) d.agreed
      (λ e. record {
        mid = settle o ∷ l;
        quiet = add {e = settle o} settles_on stay;
        log = finish o ∷ settle o ∷ l;
        ending = ends o says_read refl refl refl F.small;
        sound = sound_more (finish o) S1 (at_once_justified f r y S (agreed (record {
          voters = d.replied;
          quorum = q;
          each = λ k a i b. ((F.agreed e k b).0, Memᴰ.tail (F.agreed e k b).1);
        })));
        tied = record { stage = resting; facts = desk_rests_at_once f r y S; phased = at_rest };
        sent = all_none;
      })
      (λ e. begins-done d Read2 d.view d.best refl (add {e = settle o} settles_on stay) S1 (put_justified f r y) (desk_puts f r y S)
      (at_read2 refl (clear_acks d Read2 d.view d.best (suc d.tries) refl refl F.small)))

  -- "write 1 takes (greatest count + 1, own number) and starts write 2"
  write1_done : {m : ℕ} → Firsts l n d → DeskFacts l n d.tries d.view (asking m (writing d.holds.value)) → DeskDone C l n (completes n d Write1)
  unfolding completes takes_stamp
  write1_done {m} F f =
      let c : ℕ = num d.best.stamp in
      let r : ℕ = 4 * (c / 4 + 1) + n in
      let y : Value = d.holds.value in
      let p : Pair = record { stamp = record { count = d.best.stamp.count + 1; desk = n }; value = y } in
      let o : Op = record { desk = n; try = m; task = writing y; stamp = r; value = y } in
      let e : r ≡ num p.stamp = omega (arith, F.small) in
      let S1 : Sound C (settle o ∷ l) = sound_more (settle o) S (settle_justified f r y (write_justified q F.notes)) in
      cases (DeskDone C l n) (full d.best.stamp.count) (λ z. tt)
      (λ z. begins-done d Write2 d.view p refl (add {e = settle o} settles_on stay) S1 (put_justified f r y) (desk_puts f r y S)
      (at_write2 refl (clear_acks d Write2 d.view p (suc d.tries) e refl s)))

  acknowledged : {o : Op} → Acks l n d o → Most C d.view (λ k. (r : ℕ) × (z : Value) × (l ∋ reply k n d.tries d.view r z))
  acknowledged A = record { voters = d.replied; quorum = q; each = λ k a i b. A.each k b }

  mine : {o : Op} → Doing l n d.tries d.view (putting o) → o.desk ≡ n
  mine (puts-now e b c a g) = e

  acked : {o : Op} {e : Event} → Says o.task e d.holds → Acks l n d o → DeskFacts l n d.tries d.view (putting o) → DeskStep C l n (ended d) [] e
  acked {o} says A f = record {
    mid = l;
    quiet = stay;
    log = finish o ∷ l;
    ending = ends o says (mine f.doing) A.stamp_is A.value_is A.small;
    sound = sound_more (finish o) S (finish_justified f (acknowledged A));
    tied = record { stage = resting; facts = desk_rests f; phased = at_rest };
    sent = all_none;
  }

  -- "write 2 ends, event 3; .. read 2 ends, event 2"
  completes-done : {p : Phase} {g : Stage} → Phased l n d p g → d.phase ≡ p → DeskFacts l n d.tries d.view g → DeskDone C l n (completes n d p)
  unfolding completes
  completes-done at_rest e f = still d S (record { stage = resting; facts = f; phased = rw e at_rest })
  completes-done (at_read1 F) e f = read1_done F f
  completes-done (at_write1 F) e f = write1_done F f
  completes-done (at_read2 t A) e f = acked (rw t says_read) A f
  completes-done (at_write2 t A) e f = acked (rw t says_write) A f

module _ {C : Setting} {l : Log} {n : ℕ} (S : Sound C l) (s : n < 4) where
  counted-done : (d : Desk) → DeskTied l n d → DeskDone C l n (counted n d)
  unfolding counted
  counted-done d h = cases (DeskDone C l n) (reaches d.view d.replied) (λ q. completes-done S s d q h.phased refl h.facts) (λ e. still d S h)

  module _ (d : Desk) (h : DeskTied l n d) (from try : ℕ) where
    -- the try asked the members of the desk's view, so what answers it was said in that view
    asked_now : {p : Phase} {g : Stage} → Phased l n d p g → is_idle p ≡ false → Doing l n d.tries d.view g
        → (m : ℕ) × (x : Ask) × (l ∋ ask n d.tries m d.view x)
    asked_now at_rest e D = absurd (false≢true (sym e))
    asked_now (at_read1 {m = m} F) e (asks-now b a f) = (m, get, a)
    asked_now (at_write1 {m = m} F) e (asks-now b a f) = (m, get, a)
    asked_now (at_read2 {o = o} t A) e (puts-now i b c a f) = (o.try, put o.stamp o.value, a)
    asked_now (at_write2 {o = o} t A) e (puts-now i b c a f) = (o.try, put o.stamp o.value, a)

    said_here : {b v x : ℕ} {y : Value} → current d from try ≡ true → 8 + n ≡ 8 + b → l ∋ reply from b try v x y → l ∋ reply from n d.tries d.view x y
    said_here {b} {v} {x} {y} c e m =
        let i = (and-eq-true_iff (not (is_idle d.phase)) (eqb try d.tries && member d.view from)).0 c in
        let t : try ≡ d.tries = eqb-true try d.tries ((and-eq-true_iff (eqb try d.tries) (member d.view from)).0 i.1).0 in
        let k : n ≡ b = omega arith in
        let r : l ∋ reply from n d.tries v x y = subst (λ (z : ℕ). l ∋ reply from n z v x y) t (rw k m) in
        let a = asked_now h.phased (not-true _ i.0) h.facts.doing in
        subst (λ (z : ℕ). l ∋ reply from n d.tries z x y) (reply_view S r a.2) r

    pair-done : (p : Pair) → Backed l from (8 + n) (pair_reply try p) → DeskDone C l n (pair_came n d from try p)
    unfolding pair_came notes_pair
    pair-done p b =
        cases (DeskDone C l n) (current d from try && is_first d.phase)
        (λ e.
        let c = (and-eq-true_iff (current d from try) (is_first d.phase)).0 e in
        counted-done (notes_pair d from p) (record { stage = h.stage; facts = h.facts; phased = go h.phased c.1 (said_here c.0 b.2 b.3) }))
        (λ e. still d S h)
      where
        go : {g : Phase} {t : Stage} → Phased l n d g t → is_first g ≡ true → l ∋ reply from n d.tries d.view (num p.stamp) p.value
            → Phased l n (notes_pair d from p) g t
        go at_rest e m = absurd (false≢true e)
        go (at_read1 F) e m = at_read1 (pair_noted d from p F m b.4)
        go (at_write1 F) e m = at_write1 (pair_noted d from p F m b.4)
        go (at_read2 t A) e m = absurd (false≢true e)
        go (at_write2 t A) e m = absurd (false≢true e)

    ack-done : Backed l from (8 + n) (ack try) → DeskDone C l n (ack_came n d from try)
    unfolding ack_came notes_ack
    ack-done b =
        cases (DeskDone C l n) (current d from try && is_second d.phase)
        (λ e.
        let c = (and-eq-true_iff (current d from try) (is_second d.phase)).0 e in
        counted-done (notes_ack d from) (record { stage = h.stage; facts = h.facts; phased = go h.phased c.1 (b.3, b.4, said_here c.0 b.2 b.5) }))
        (λ e. still d S h)
      where
        go : {g : Phase} {t : Stage} → Phased l n d g t → is_second g ≡ true → (r : ℕ) × (z : Value) × (l ∋ reply from n d.tries d.view r z)
            → Phased l n (notes_ack d from) g t
        go at_rest e m = absurd (false≢true e)
        go (at_read1 F) e m = absurd (false≢true e)
        go (at_write1 F) e m = absurd (false≢true e)
        go (at_read2 t A) e m = at_read2 t (ack_noted d from A m)
        go (at_write2 t A) e m = at_write2 t (ack_noted d from A m)

  -- ---- a message from `from` comes to the desk n

  pub desk-hears : (d : Desk) → DeskTied l n d → (from : ℕ) (b : Body) → Backed l from (8 + n) b → DeskDone C l n (desk_hears n d from b)
  unfolding desk_hears
  desk-hears d h from (view_reply try v) b = view-done S d h from try v
  desk-hears d h from (pair_reply try p) b = pair-done d h from try p b
  desk-hears d h from (ack try) b = ack-done d h from try b
  desk-hears d h from (request u c) b = still d S h
  desk-hears d h from (view v) b = still d S h
  desk-hears d h from (proposal v q) b = still d S h
  desk-hears d h from (converged v q) b = still d S h
  desk-hears d h from (install o w q) b = still d S h
  desk-hears d h from (state_says o w p u) b = still d S h
  desk-hears d h from (get_says t c) b = still d S h
  desk-hears d h from (put_says t c p) b = still d S h

-- What a rule at one desk must do to the log, and the rules READ, WRITE and of a view reply: their entries are justified, and the desk stays tied.
-- Assumes nothing.
use mathlib.Core.Path.{◌≡◌, refl, sym, subst, ap}
use mathlib.Core.Bool.{true, false, not, ◌&&◌, false≢true, and-eq-true_iff}
use mathlib.Core.List.{List, [], ◌∷◌}
use Prim.Native.Nat.{ℕ, suc, ◌+◌, ◌<◌}
use native.Mathlib.Omega.{arith}
use borrow.Author.Tests.{not-true}
use Rattle.views.proofs.Truth.{contrary, cases}
use Rattle.views.proofs.Digits.{bit_none}
use Rattle.rules.specs.Sets.{inside}
use Rattle.rules.specs.Stamps.{Value, Pair, zero_pair}
use Rattle.rules.specs.Messages.{Sending, to_members, Event, nothing, read_done, write_done, Answer, refused, does, quietly}
use Rattle.rules.specs.declared.Desk.{Desk}
use Rattle.rules.specs.declared.Phase.{Phase}
use Rattle.rules.specs.declared.Phase.TheVariants.{Read1, Read2, Write1, Write2}
use Rattle.rules.specs.State.{crashed_desk}
use Rattle.rules.specs.Desks.{is_idle, full, cleared, asks, begins, read_asked, write_asked, current, view_came}
use Rattle.safety.proofs.Setting.{Setting}
use Rattle.safety.proofs.Lists.{All, all_none}
use Rattle.safety.proofs.Numbers.{num, Small}
use Rattle.safety.proofs.Log.{Task, reading, writing, Op, Ask, Entry, tag, Log, begin, ask, finish, Asks, Sound}
use Rattle.safety.proofs.Past.{sound_more}
use Rattle.safety.proofs.Growth.{Since, stay, add, ByDesk, Plain}
use Rattle.safety.proofs.DeskFacts.{DeskFacts, Doing, asks as asks-now, puts as puts-now, Stage, resting, begin_justified, first_ask_justified, desk-begins, again_justified, desk_again, put_again_justified, desk_puts_again}
use Rattle.safety.proofs.Notes.{notes_none}
use Rattle.safety.proofs.Ties.{Firsts, Acks, Phased, at_rest, at_read1, at_write1, at_read2, at_write2, DeskTied, Backed, SendingBacked}
use Rattle.safety.proofs.Grown.{sent_alike}

-- the entries of the desk d that neither begin nor end an operation
abbrev pub Asking : ℕ → Entry → Type 0
Asking d e = ByDesk d e × Plain e

-- an operation's end is the last entry of its step, and is told: a read's by event 2, a write's by event 3
pub data Says : Task → Event → Pair → Type 0 where
  says_read : {p : Pair} → Says reading (read_done p) p
  says_write : {x : Value} {p : Pair} → Says (writing x) (write_done p) p

pub data Ending (n : ℕ) (l : Log) : Event → Log → Type 0 where
  goes_on : Ending n l nothing l
  ends : {e : Event} {p : Pair} (o : Op) → Says o.task e p → o.desk ≡ n → o.stamp ≡ num p.stamp → o.value ≡ p.value → Small p
      → Ending n l e (finish o ∷ l)

pub record DeskStep (C : Setting) (l : Log) (n : ℕ) (d : Desk) (ss : List Sending) (e : Event) : Type 0 where
  pub mid : Log
  pub quiet : Since (Asking n) l mid
  pub log : Log
  pub ending : Ending n mid e log
  pub sound : Sound C log
  pub tied : DeskTied log n d
  pub sent : All (SendingBacked log (8 + n)) ss

abbrev pub DeskDone : Setting → Log → ℕ → Answer Desk → Type 0
DeskDone C l n (refused x) = Unit {0}
DeskDone C l n (does d ss e) = DeskStep C l n d ss e

pub tied_crashed : {l : Log} {n : ℕ} {d : Desk} → DeskTied l n d → DeskTied l n (crashed_desk d)
unfolding crashed_desk
tied_crashed {l} {n} {d} h = record { stage = h.stage; facts = h.facts; phased = go h.phased }
  where
    firsts : Firsts l n d → Firsts l n (crashed_desk d)
    firsts f = record { notes = f.notes; small = f.small; clean = f.clean; agreed = f.agreed }

    acks : {o : Op} → Acks l n d o → Acks l n (crashed_desk d) o
    acks a = record { each = a.each; stamp_is = a.stamp_is; value_is = a.value_is; small = a.small }

    go : {p : Phase} {s : Stage} → Phased l n d p s → Phased l n (crashed_desk d) p s
    go at_rest = at_rest
    go (at_read1 f) = at_read1 (firsts f)
    go (at_write1 f) = at_write1 (firsts f)
    go (at_read2 e a) = at_read2 e (acks a)
    go (at_write2 e a) = at_write2 e (acks a)

-- ---- "Each phase begins by adding 1 to the try, clearing the replies and sending to all members of the desk's view"

module _ {l : Log} {n : ℕ} (d : Desk) (ph : Phase) (v : ℕ) (p : Pair) (t : ℕ) where
  pub clear_firsts : Firsts l n (cleared d ph v p t)
  clear_firsts = record { notes = notes_none; small = omega arith; clean = λ e. refl; agreed = λ e. absurd (false≢true e) }

  pub clear_acks : {o : Op} → o.stamp ≡ num p.stamp → o.value ≡ p.value → Small p → Acks l n (cleared d ph v p t) o
  clear_acks e f s = record { each = λ k b. absurd (contrary b (bit_none k)); stamp_is = e; value_is = f; small = s }

-- what a phase sends is backed by its ask
said : {m : Log} {n : ℕ} {d : Desk} {t v : ℕ} {ph : Phase} {s : Stage} → is_idle ph ≡ false → Phased m n d ph s → Doing m n t v s → (k : ℕ) → Backed m (8 + n) k (asks ph t v d.holds)
said e at_rest f k = absurd (false≢true (sym e))
said e (at_read1 x) (asks-now b q g) k = (_, _, refl, q)
said e (at_write1 x) (asks-now b q g) k = (_, _, refl, q)
said e (at_read2 z x) (puts-now i b c q g) k = (_, _, refl, rw (x.stamp_is, x.value_is) at q, x.small)
said e (at_write2 z x) (puts-now i b c q g) k = (_, _, refl, rw (x.stamp_is, x.value_is) at q, x.small)

module _ {C : Setting} {l : Log} {n : ℕ} where
  pub still : (d : Desk) → Sound C l → DeskTied l n d → DeskDone C l n (quietly d)
  still d S h = record { mid = l; quiet = stay; log = l; ending = goes_on; sound = S; tied = h; sent = all_none }

  pub begins-done : (d : Desk) (ph : Phase) (v : ℕ) (p : Pair) {s : Stage} {m : Log} {o : ℕ} {a : Ask} → is_idle ph ≡ false → Since (Asking n) l m → Sound C m
      → Asks m n (suc d.tries) o a → DeskFacts (ask n (suc d.tries) o v a ∷ m) n (suc d.tries) v s
      → Phased (ask n (suc d.tries) o v a ∷ m) n (cleared d ph v p (suc d.tries)) ph s → DeskDone C l n (begins d ph v p)
  unfolding begins
  begins-done d ph v p {s} {m} {o} {a} i g S j h f =
      let e : Entry = ask n (suc d.tries) o v a in
      cases (DeskDone C l n) (full d.tries) (λ _. tt)
      (λ _. subst (λ (t : ℕ). DeskStep C l n (cleared d ph v p t) (to_members v (asks ph t v p) ∷ []) nothing) up (record {
        mid = e ∷ m;
        quiet = add {e = e} (refl, (λ d t a c. omega (arith, ap tag c), λ o c. omega (arith, ap tag c))) g;
        log = e ∷ m;
        ending = goes_on;
        sound = sound_more e S j;
        tied = record { stage = s; facts = h; phased = f };
        sent = sent_alike (e ∷ m) (8 + n) (to_members v (asks ph (suc d.tries) v p)) (said i f h.doing);
      }))
    where
      up : suc d.tries ≡ d.tries + 1
      up = omega arith

-- ---- "READ and WRITE are NOT NOW unless the desk is idle."

module _ {C : Setting} {l : Log} {n : ℕ} (S : Sound C l) (d : Desk) (h : DeskTied l n d) where
  idle_rests : is_idle d.phase ≡ true → DeskFacts l n d.tries d.view resting
  idle_rests e = go h.phased h.facts e
    where
      go : {p : Phase} {s : Stage} → Phased l n d p s → DeskFacts l n d.tries d.view s → is_idle p ≡ true → DeskFacts l n d.tries d.view resting
      go at_rest f e = f
      go (at_read1 x) f e = absurd (false≢true e)
      go (at_write1 x) f e = absurd (false≢true e)
      go (at_read2 x y) f e = absurd (false≢true e)
      go (at_write2 x y) f e = absurd (false≢true e)

  -- an operation begins: the log has its begin, then the rest
  pub begin-sound : (a : Task) → n < 4 → is_idle d.phase ≡ true → Sound C (begin n (suc d.tries) a ∷ l)
  begin-sound a s e = sound_more (begin n (suc d.tries) a) S (begin_justified (idle_rests e) s)

  module _ (s : n < 4) where
    pub read_done_lem : DeskDone C (begin n (suc d.tries) reading ∷ l) n (read_asked d)
    unfolding read_asked
    read_done_lem = cases (DeskDone C (begin n (suc d.tries) reading ∷ l) n) (is_idle d.phase)
        (λ e. begins-done d Read1 d.view zero_pair refl stay (begin-sound reading s e) (first_ask_justified (idle_rests e)) (desk-begins (idle_rests e))
        (at_read1 (clear_firsts d Read1 d.view zero_pair (suc d.tries))))
        (λ e. tt)

    pub write_done_lem : (x : Value) → DeskDone C (begin n (suc d.tries) (writing x) ∷ l) n (write_asked d x)
    unfolding write_asked
    write_done_lem x = cases (DeskDone C (begin n (suc d.tries) (writing x) ∷ l) n) (is_idle d.phase)
        (λ e.
        let p : Pair = record { stamp = zero_pair.stamp; value = x } in
        begins-done d Write1 d.view p refl stay (begin-sound (writing x) s e) (first_ask_justified (idle_rests e)) (desk-begins (idle_rests e))
        (at_write1 (clear_firsts d Write1 d.view p (suc d.tries))))
        (λ e. tt)

  -- "A view reply that strictly includes the desk's view is adopted and the phase starts again; any other does nothing."
  restarts : (v : ℕ) {p : Phase} {s : Stage} → Phased l n d p s → DeskFacts l n d.tries d.view s → is_idle p ≡ false
      → DeskDone C l n (begins d p v d.holds)
  restarts v at_rest f e = absurd (false≢true (sym e))
  restarts v (at_read1 x) f e =
      begins-done d Read1 v d.holds e stay S (again_justified f) (desk_again f) (at_read1 (clear_firsts d Read1 v d.holds (suc d.tries)))
  restarts v (at_write1 x) f e =
      begins-done d Write1 v d.holds e stay S (again_justified f) (desk_again f) (at_write1 (clear_firsts d Write1 v d.holds (suc d.tries)))
  restarts v (at_read2 t x) f e =
      begins-done d Read2 v d.holds e stay S (put_again_justified f) (desk_puts_again f)
      (at_read2 t (clear_acks d Read2 v d.holds (suc d.tries) x.stamp_is x.value_is x.small))
  restarts v (at_write2 t x) f e =
      begins-done d Write2 v d.holds e stay S (put_again_justified f) (desk_puts_again f)
      (at_write2 t (clear_acks d Write2 v d.holds (suc d.tries) x.stamp_is x.value_is x.small))

  pub view-done : (from try v : ℕ) → DeskDone C l n (view_came d from try v)
  unfolding view_came
  view-done from try v =
      cases (DeskDone C l n) (current d from try && inside d.view v)
      (λ e. restarts v h.phased h.facts (not-true _ ((and-eq-true_iff (not (is_idle d.phase)) _).0 ((and-eq-true_iff (current d from try) (inside d.view v)).0 e).0).0))
      (λ e. still d S h)

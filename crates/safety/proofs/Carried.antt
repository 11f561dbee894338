-- The order of the log's operations (Static.antt), carried over to the operations of the history. Assumes nothing.
use mathlib.Core.Path.{◌≡◌, refl, sym, subst, ap, ◌∙◌}
use mathlib.Core.Logic.{◌⊎◌, inl, inr, ⊎_elim}
use mathlib.Core.Bool.{true, false, false≢true}
use mathlib.Core.List.Memᴰ
use mathlib.Core.List.{List, [], ◌∷◌, map}
use Prim.Native.Nat.{ℕ, ◌≤◌, ◌<◌}
use native.Mathlib.Omega.{arith}
use Rattle.views.specs.View.{within_of}
use Rattle.views.proofs.Sets.{within_test, within_refl}
use Rattle.rules.specs.Stamps.{Stamp, Value, greater}
use Rattle.rules.specs.State.{World}
use Rattle.rules.specs.History.{Operation, Told, unfinished_in}
use Rattle.rules.specs.Demand3.{◌∈◌, is_read, event_of, written, latest, Next, Ordered, first, next}
use Rattle.safety.proofs.Setting.{Setting}
use Rattle.safety.proofs.Sequences.{Comparable, same, inner, outer}
use Rattle.safety.proofs.Numbers.{num, stamp_of, pair_of, stamps_rise}
use Rattle.safety.proofs.Log.{Task, reading, writing, Op, Log, ◌∋◌, begin, settle, finish}
use Rattle.safety.proofs.Past.{back, past_has, why}
use Rattle.safety.proofs.Operations.{settle_once, write_value}
use Rattle.safety.proofs.Order.{Ops, ◌contains◌, Counts, ended, returned, pick, latest as last-write, Next as NextInLog, Lined, lined_nil, lined_cons, Descending, desc_cons}
use Rattle.safety.proofs.Static.{demand3}
use Rattle.safety.proofs.Book.{event_at_lem, finish_begun}
use Rattle.safety.proofs.Running.{Run}
use Rattle.safety.proofs.Unfinished.{named, done_finish, unfinished-known, settled_write}

pub nested_test : {u v : ℕ} → Comparable u v → (within_of u v ≡ true) ⊎ (within_of v u ≡ true)
nested_test {u} {v} (same e) = inl (within_test {a = u} {b = v} (rw e (within_refl v)))
nested_test (inner i) = inl (within_test i.within)
nested_test (outer i) = inr (within_test i.within)

-- a stamp's number is told by the stamp
num_back : (n : ℕ) → num (stamp_of n) ≡ n
unfolding stamp_of
num_back n = omega arith

number_of : {m n : ℕ} → stamp_of m ≡ stamp_of n → m ≡ n
number_of {m} {n} e = sym (num_back m) ∙ ap (λ (s : Stamp). num s) e ∙ num_back n

pub read-task : (a : Task) → is_read a ≡ true → a ≡ reading
read-task reading e = refl
read-task (writing x) e = absurd (false≢true e)

module _ {old : Log} {C : Setting} {i : ℕ} {w : World} {ts : List Told} {ops : List Operation} {vs : List ℕ} (R : Run old C w i ts ops vs) where
  -- of two views that opened one holds every update of the other
  pub views_nested : (u v : ℕ) → u ∈ vs → v ∈ vs → (within_of u v ≡ true) ⊎ (within_of v u ≡ true)
  views_nested u v a b = nested_test ((demand3 R.sound).one_chain (R.book.opened u a).1 (R.book.opened v b).1)

  -- a read ended with event 2, a write with event 3
  pub events-told : (p : Operation) → p ∈ ops → p.event ≡ event_of p.task
  events-told p m =
      let k = R.book.known p m in
      subst (λ (x : Operation). x.event ≡ event_of x.task) k.2 (event_at_lem _ k.0.task (R.book.dates.ended k.0 k.1).0)

  abbrev name : Op → Operation
  name = named R

  abbrev log : Log
  log = R.log

  -- ---- what counts in the log is what belongs into the order

  pub data Counted (p : Operation) : Type 0 where
    has_ended : p ∈ ops → Counted p
    was_returned : {r : Operation} → p ∈ unfinished_in ts 0 w.desks → r ∈ ops → is_read r.task ≡ true → r.pair.stamp ≡ p.pair.stamp → Counted p

  pub counted-from : {o : Op} → Counts log o → Counted (name o)
  unfolding pair_of
  counted-from {o} (ended f) = has_ended (R.book.listed o f)
  counted-from {o} (returned {p = r} s v f a e) = ⊎_elim (λ h. has_ended (R.book.listed o h))
      (λ h. was_returned h (R.book.listed r f) (ap is_read a) (ap stamp_of e)) (settled_write R s v)

  pub counted-to : {p : Operation} → Counted p → (o : Op) × Counts log o × (name o ≡ p)
  unfolding pair_of
  counted-to {p} (has_ended m) = let k = R.book.known p m in (k.0, ended k.1, k.2)
  counted-to {p} (was_returned {r = r} m n a e) =
      let k = unfinished-known R p m in
      let h = R.book.known r n in
      let z : h.0.task ≡ reading = read-task _ (ap (λ (x : Operation). is_read x.task) h.2 ∙ a) in
      let s : h.0.stamp ≡ k.0.stamp = number_of (ap (λ (x : Operation). x.pair.stamp) h.2 ∙ e ∙ ap (λ (x : Operation). x.pair.stamp) (sym k.3)) in
      (k.0, returned k.1 k.2 h.1 z s, k.3)

  -- ---- names are given once: its desk and the step with which it began tell an operation

  counts_settled : {o : Op} → Counts log o → log ∋ settle o
  counts_settled (ended f) = (finish_begun R.sound f).0
  counts_settled (returned s v f a e) = s

  settled_begun : {o : Op} → log ∋ settle o → log ∋ begin o.desk o.try o.task
  settled_begun s = let x = why R.sound s in past_has (back x.past) x.is.begun

  name_once : {o p : Op} {x y : Operation} → log ∋ settle o → log ∋ settle p → name o ≡ x → name p ≡ y → x.desk ≡ y.desk → x.begun ≡ y.begun → o ≡ p
  name_once {o} {p} s t e f g h =
      let d : o.desk ≡ p.desk = rw (sym e, sym f) at g in
      let b : R.book.begins o.desk o.try ≡ R.book.begins p.desk p.try = rw (sym e, sym f) at h in
      let m = subst (λ (z : ℕ). log ∋ begin z p.try p.task) (sym d) (settled_begun t) in
      settle_once R.sound s t d
      (R.book.dates.apart o.desk o.try p.try o.task p.task (settled_begun s) m (b ∙ ap (λ (z : ℕ). R.book.begins z p.try) (sym d)))

  -- so an operation ends once, and what has ended is not left unfinished
  pub ended-once : (p q : Operation) → p ∈ ops → q ∈ ops → p.desk ≡ q.desk → p.begun ≡ q.begun → p ≡ q
  ended-once p q m n d b =
      let k = R.book.known p m in
      let h = R.book.known q n in
      sym k.2 ∙ ap name (name_once (finish_begun R.sound k.1).0 (finish_begun R.sound h.1).0 k.2 h.2 d b) ∙ h.2

  pub ended-over : (p q : Operation) → p ∈ ops → q ∈ unfinished_in ts 0 w.desks → p.desk ≡ q.desk → p.begun ≡ q.begun → ⊥
  ended-over p q m n d b =
      let k = R.book.known p m in
      let h = unfinished-known R q n in
      h.4 (subst (λ (o : Op). log ∋ finish o) (name_once (finish_begun R.sound k.1).0 h.1 k.2 h.3 d b) k.1)

  -- ---- the order

  latest_named : (r : Ops) → latest (map name r) ≡ pair_of (last-write r).0 (last-write r).1
  unfolding latest last-write pair_of stamp_of
  latest_named [] = refl
  latest_named (o ∷ r) = go o.task (latest_named r)
    where
      go : (a : Task) → latest (map name r) ≡ pair_of (last-write r).0 (last-write r).1
          → written a (stamp_of o.stamp) (latest (map name r)) ≡ pair_of (pick a o.stamp (last-write r)).0 (pick a o.stamp (last-write r)).1
      go reading h = h
      go (writing y) h = refl

  next_named : {o : Op} {r : Ops} → log ∋ settle o → ((p : Op) → r contains p → log ∋ settle p) → NextInLog log o r
      → ((p : Op) → r contains p → p.stamp ≤ o.stamp)
      → Next (name o) (map name r)
  unfolding pair_of
  next_named {o} {r} s all N low = record {
    once = λ m. let k = Memᴰ.of_map name r m in N.once (Memᴰ.cast (name_once s (all k.0 k.1) refl k.2 refl refl) k.1);
    timely = λ p m b. let k = Memᴰ.of_map name r m in timely k.0 k.1 b.0 (subst (λ (x : Operation). R.book.ends o.desk o.try < x.begun) (sym k.2) b.1);
    returns = λ e. latest_named r ∙ ap (λ (x : ℕ × Value). pair_of x.0 x.1) (N.returns (read-task o.task e));
    wrote = λ x e. write_value R.sound s e;
    rises = λ p m. let k = Memᴰ.of_map name r m in
        subst (λ (x : Operation). greater x.pair.stamp (stamp_of o.stamp) ≡ false) k.2 (stamps_rise k.0.stamp o.stamp (low k.0 k.1));
  }
    where
      timely : (p : Op) → r contains p → 0 < R.book.ends o.desk o.try → R.book.ends o.desk o.try < R.book.begins p.desk p.try → ⊥
      timely p m b c =
          let x = why R.sound (settled_begun (all p m)) in
          let f = done_finish R s (R.book.dates.really o.desk o.try b) in
          N.timely p m (record { before = x.before; began = x.past; ended = R.book.dates.timely x.past o f c })

  pub ordered_named : {r : Ops} → Lined log r → Descending r → ((p : Op) → r contains p → log ∋ settle p) → Ordered (map name r)
  ordered_named lined_nil d all = first
  ordered_named (lined_cons {o = o} {r = r} n l) (desc_cons f d) all =
      next (next_named (all o (Memᴰ.head refl)) (λ p m. all p (Memᴰ.tail m)) n f) (ordered_named l d (λ p m. all p (Memᴰ.tail m)))

  pub the_order : List Operation
  the_order = map name (demand3 R.sound).order

  pub order-all : (p : Operation) → Counted p → p ∈ the_order
  unfolding the_order
  order-all p c =
      let k = counted-to c in
      Memᴰ.cast (sym k.2) (Memᴰ.map name ((demand3 R.sound).is-order.all k.0 k.1))

  pub order-only : (p : Operation) → p ∈ the_order → Counted p
  unfolding the_order
  order-only p m =
      let k = Memᴰ.of_map name (demand3 R.sound).order m in
      subst (λ (x : Operation). Counted x) k.2 (counted-from ((demand3 R.sound).is-order.only k.0 k.1))

  pub order_is : Ordered the_order
  unfolding the_order
  order_is = ordered_named (demand3 R.sound).is-order.lined (demand3 R.sound).stamps (λ p m. counts_settled ((demand3 R.sound).is-order.only p m))

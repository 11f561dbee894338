-- EVERY SOUND LOG HAS AN ORDER of its operations: going through the log from old to new, a write goes in when it settles and a read when it ends. Assumes nothing.
use mathlib.Core.Path.{◌≡◌, refl, sym, subst, ap, ◌∙◌}
use mathlib.Core.Logic.{◌⊎◌, inl, inr}
use mathlib.Core.List.Memᴰ
use mathlib.Core.List.{[], ◌∷◌}
use Prim.Native.Nat.{ℕ, ◌≤◌, ◌<◌}
use native.Mathlib.Omega.{arith}
use native.Mathlib.Decide.{ℕ_discrete}
use Rattle.rules.specs.Stamps.{Value, no_value}
use Rattle.safety.proofs.Setting.{Setting}
use Rattle.safety.proofs.Log.{Task, reading, writing, Op, Entry, tag, Log, ◌∋◌, first, own, conv, raise, state, enter, begin, ask, reply, settle, finish, Sound}
use Rattle.safety.proofs.Past.{Past, now, back, past_has, past_trans, here, sound-past, justified, why}
use Rattle.safety.proofs.Operations.{Writes, Reads, Precedes, begin-once, never_less, write_positive, write-once, Backed, nothing, written, backed, write_value}
use Rattle.safety.proofs.Order.{Ops, ◌contains◌, Counts, ended, returned, latest, Next, Lined, lined_nil, lined_cons, Order, Descending, desc_nil, desc_cons}
use Rattle.safety.proofs.Inserting.{Inserted, above, below, insertion, inserted_old, inserted_new, inserted_from, inserted_descending, latest_same, latest-none, latest-is}

-- ---- which entry puts an operation into the order: its settling for a write, its end for a read

abbrev Seen : Log → ℕ → Type 0
Seen t s = (p : Op) × (t ∋ finish p) × (p.stamp ≡ s)

data Adds (t : Log) : Entry → Op → Type 0 where
  adds_write : {o : Op} → Writes o → Seen t o.stamp → Adds t (settle o) o
  adds_read : {o : Op} → Reads o → Adds t (finish o) o

adds_one : {t : Log} {e : Entry} {o p : Op} → Adds t e o → Adds t e p → o ≡ p
adds_one (adds_write v s) (adds_write w u) = refl
adds_one (adds_read v) (adds_read w) = refl

not_both : (o : Op) → Writes o → Reads o → ⊥
not_both o v w =
    let f = v.1 in
    let z : ◌≡◌ {A = ℕ} 0 1 = cc in
    omega arith

-- which it is can be told
data Kind : Entry → Type 0 where
  settling : {o : Op} → Kind (settle o)
  finishing : {o : Op} → Kind (finish o)
  plain : (e : Entry) → tag e < 9 → Kind e

kind : (e : Entry) → Kind e
kind (first k v q) = plain (first k v q) (omega arith)
kind (own k v q) = plain (own k v q) (omega arith)
kind (conv k v q) = plain (conv k v q) (omega arith)
kind (raise v q) = plain (raise v q) (omega arith)
kind (state k x o w s y) = plain (state k x o w s y) (omega arith)
kind (enter k o w q s y) = plain (enter k o w q s y) (omega arith)
kind (begin d n a) = plain (begin d n a) (omega arith)
kind (ask d n m v a) = plain (ask d n m v a) (omega arith)
kind (reply k d n v s y) = plain (reply k d n v s y) (omega arith)
kind (settle o) = settling
kind (finish o) = finishing

seen? : (l : Log) (s : ℕ) → Dec (Seen l s)
seen? [] s = no (λ h. Memᴰ.not-nil h.1)
seen? (e ∷ l) s = go (kind e) (seen? l s)
  where
    old : {e : Entry} → (Seen l s → ⊥) → ((p : Op) → finish p ≡ e → p.stamp ≡ s → ⊥) → Seen (e ∷ l) s → ⊥
    old {e} n f h = cases (Memᴰ.cases_cons h.1)
      where
        cases : (finish h.0 ≡ e) ⊎ (l ∋ finish h.0) → ⊥
        cases (inl c) = f h.0 c h.2
        cases (inr m) = n (h.0, m, h.2)

    apart : (p o : Op) → finish p ≡ settle o → ⊥
    apart p o d = omega (arith, ap tag d)

    ends : (o : Op) → Dec (o.stamp ≡ s) → (Seen l s → ⊥) → Dec (Seen (finish o ∷ l) s)
    ends o (yes c) n = yes (o, Memᴰ.head refl, c)
    ends o (no c) n = no (old n (λ p d f. let e : p ≡ o = cc in c (ap (λ (z : Op). z.stamp) (sym e) ∙ f)))

    go : {e : Entry} → Kind e → Dec (Seen l s) → Dec (Seen (e ∷ l) s)
    go k (yes h) = yes (h.0, Memᴰ.tail h.1, h.2)
    go (settling {o = o}) (no n) = no (old n (λ p d f. apart p o d))
    go (finishing {o = o}) (no n) = ends o (ℕ_discrete o.stamp s) n
    go (plain e f) (no n) = no (old n (λ p d c. omega (arith, ap tag d)))

adds? : (t : Log) (e : Entry) → Dec ((o : Op) × Adds t e o)
adds? t e = go (kind e)
  where
    task : (o : Op) (a : Task) → o.task ≡ a → Reads o ⊎ Writes o
    task o reading e = inl e
    task o (writing y) e = inr (y, e)

    settles : (o : Op) → Reads o ⊎ Writes o → Dec (Seen t o.stamp) → Dec ((p : Op) × Adds t (settle o) p)
    settles o (inl f) d = no (λ h. unwritten f h.1)
      where
        unwritten : {p : Op} → Reads o → Adds t (settle o) p → ⊥
        unwritten f (adds_write w s) = not_both o w f
    settles o (inr w) (yes s) = yes (o, adds_write w s)
    settles o (inr w) (no n) = no (λ h. unseen h.1)
      where
        unseen : {p : Op} → Adds t (settle o) p → ⊥
        unseen (adds_write w s) = n s

    finishes : (o : Op) → Reads o ⊎ Writes o → Dec ((p : Op) × Adds t (finish o) p)
    finishes o (inl f) = yes (o, adds_read f)
    finishes o (inr w) = no (λ h. unread w h.1)
      where
        unread : {p : Op} → Writes o → Adds t (finish o) p → ⊥
        unread w (adds_read f) = not_both o w f

    neither : {e : Entry} {o : Op} → tag e < 9 → Adds t e o → ⊥
    neither f (adds_write w s) = omega arith
    neither f (adds_read g) = omega arith

    go : {e : Entry} → Kind e → Dec ((o : Op) × Adds t e o)
    go (settling {o = o}) = settles o (task o o.task refl) (seen? t o.stamp)
    go (finishing {o = o}) = finishes o (task o o.task refl)
    go (plain e f) = no (λ h. neither f h.1)

-- ---- the order, as the log grows

record Added (t l : Log) (o : Op) : Type 0 where
  entry : Entry
  there : l ∋ entry
  adds : Adds t entry o

record Line (t l : Log) (r : Ops) : Type 0 where
  all : (o : Op) → Added t l o → r contains o
  only : (o : Op) → r contains o → Added t l o
  lined : Lined t r
  descending : Descending r

-- where a read's stamp and value come from
data Source (o : Op) (r : Ops) : Type 0 where
  zero : o.stamp ≡ 0 → o.value ≡ no_value → Source o r
  write : {w : Op} → r contains w → Writes w → w.stamp ≡ o.stamp → w.value ≡ o.value → Source o r

module _ {C : Setting} {t : Log} (S : Sound C t) where
  -- o is new to the operations r
  record New (o : Op) (r : Ops) : Type 0 where
    absent : r contains o → ⊥
    timely : (p : Op) → r contains p → Precedes t o p → ⊥
    settled : (p : Op) → r contains p → t ∋ settle p
    source : Reads o → Source o r

  module _ {o : Op} (settled : t ∋ settle o) where
    -- a read that is put above all of at most its stamp
    returns-latest : {r : Ops} → New o r → Descending r → ((p : Op) → r contains p → p.stamp ≤ o.stamp) → Source o r → latest r ≡ (o.stamp, o.value)
    returns-latest {r} n d f (zero a b) =
        let e = latest-none r (λ p m w. omega (arith, f p m, write_positive S (n.settled p m) w)) in
        cc
    returns-latest {r} n d f (write {w = w} m v a b) =
        let e = latest-is d v m (λ y h. write_value S (n.settled w m) h) (λ p k u. omega (arith, f p k)) (λ p k u g. write-once S (n.settled p k) (n.settled w m) u v g) in
        cc

    new_tail : {h : Op} {r : Ops} → o.stamp < h.stamp → New o (h ∷ r) → New o r
    new_tail {h} {r} l n = record {
      absent = λ m. n.absent (Memᴰ.tail m);
      timely = λ p m. n.timely p (Memᴰ.tail m);
      settled = λ p m. n.settled p (Memᴰ.tail m);
      source = λ f. go (n.source f);
    }
      where
        pick_write : {w : Op} → (w ≡ h) ⊎ (r contains w) → Writes w → w.stamp ≡ o.stamp → w.value ≡ o.value → Source o r
        pick_write (inl e) v a b = absurd (omega (arith, ap (λ (z : Op). z.stamp) e))
        pick_write (inr m) v a b = write m v a b

        go : Source o (h ∷ r) → Source o r
        go (zero a b) = zero a b
        go (write m v a b) = pick_write (Memᴰ.cases_cons m) v a b

    -- an operation that stood there still stands well
    next-kept : {h : Op} {r r' : Ops} → o.stamp < h.stamp → (h ≡ o → ⊥) → Inserted o r r' → Next t h r → Next t h r'
    next-kept {h} {r} {r'} l d i n = record {
      once = λ m. once (inserted_from i m);
      timely = λ p m. timely p (inserted_from i m);
      returns = λ f. returns (n.returns f);
    }
      where
        once : (h ≡ o) ⊎ (r contains h) → ⊥
        once (inl e) = d e
        once (inr m) = n.once m

        timely : (p : Op) → (p ≡ o) ⊎ (r contains p) → Precedes t h p → ⊥
        timely p (inl e) q = omega (arith, never_less S (subst (λ (z : Op). Precedes t h z) e q) settled)
        timely p (inr m) q = n.timely p m q

        returns : latest r ≡ (h.stamp, h.value) → latest r' ≡ (h.stamp, h.value)
        returns e = latest_same i (omega (arith, ap (λ (z : ℕ × Value). z.0) e)) ∙ e

    lined_more : {r r' : Ops} → Inserted o r r' → New o r → Descending r → Lined t r → Lined t r'
    lined_more (above f) n d s = lined_cons (record { once = n.absent; timely = n.timely; returns = λ g. returns-latest n d f (n.source g) }) s
    lined_more (below l i) n (desc_cons f d) (lined_cons x s) =
        lined_cons (next-kept l (λ e. n.absent (Memᴰ.head (sym e))) i x) (lined_more i (new_tail l n) d s)

  added_settled : {l : Log} {e : Entry} {o : Op} → Past t l → l ∋ e → Adds t e o → l ∋ settle o
  added_settled p m (adds_write w s) = m
  added_settled p m (adds_read f) = let u = why (sound-past S p) m in past_has (back u.past) u.is.settled

  -- ---- one more entry
  module _ {l : Log} {r : Ops} (L : Line t l r) where
    module _ {e : Entry} {o : Op} (p : Past t (e ∷ l)) (a : Adds t e o) where
      now_settled : t ∋ settle o
      now_settled = past_has p (added_settled p (Memᴰ.head refl) a)

      unfinished : l ∋ finish o → ⊥
      unfinished m = go p a
        where
          go : {e : Entry} → Past t (e ∷ l) → Adds t e o → ⊥
          go q (adds_write w s) = let u = why (sound-past S (back q)) m in (justified S q).once o (past_has (back u.past) u.is.settled) refl refl
          go q (adds_read f) = (justified S q).once m

      absent : Added t l o → ⊥
      absent b = go p a b.there b.adds
        where
          go : {e f : Entry} → Past t (e ∷ l) → Adds t e o → l ∋ f → Adds t f o → ⊥
          go q (adds_write w s) m (adds_write v u) = (justified S q).once o m refl refl
          go q (adds_write w s) m (adds_read g) = not_both o w g
          go q (adds_read f) m (adds_write v u) = not_both o v f
          go q (adds_read f) m (adds_read g) = unfinished m

      timely : (q : Op) → Added t l q → Precedes t o q → ⊥
      timely q b h =
          let x = why (sound-past S (back p)) (added_settled (back p) b.there b.adds) in
          let y = why (sound-past S (back (past_trans (back p) x.past))) x.is.begun in
          let z : Past l (begin q.desk q.try q.task ∷ y.before) = past_trans (back x.past) y.past in
          unfinished (past_has (back z) (subst (λ (m : Log). m ∋ finish o) (begin-once S h.began (past_trans (back p) z)) h.ended))

      source : Reads o → Source o r
      source f = go p a
        where
          from : t ∋ finish o → Backed l o.stamp o.value → Source o r
          from m (nothing b c) = zero b c
          from m (written {o = w} k v b c) = write (L.all w (record { entry = settle w; there = k; adds = adds_write v (o, m, sym b) })) v b c

          go : {e : Entry} → Past t (e ∷ l) → Adds t e o → Source o r
          go q (adds_write w s) = absurd (not_both o w f)
          go q (adds_read g) = from (here q) (backed (sound-past S (back q)) (justified S q).settled)

      new : New o r
      new = record {
        absent = λ m. absent (L.only o m);
        timely = λ q m. timely q (L.only q m);
        settled = λ q m. let b = L.only q m in past_has (back p) (added_settled (back p) b.there b.adds);
        source = source;
      }

      line_more : (r' : Ops) × Line t (e ∷ l) r'
      line_more =
          let (r', i) = insertion o L.descending in (
            r',
            record {
              all = λ q b. all i (Memᴰ.cases_cons b.there) b.adds;
              only = λ q m. only (inserted_from i m);
              lined = lined_more now_settled i new L.descending L.lined;
              descending = inserted_descending i L.descending;
            },
          )
        where
          all : {r' : Ops} {q : Op} {f : Entry} → Inserted o r r' → (f ≡ e) ⊎ (l ∋ f) → Adds t f q → r' contains q
          all {r'} {q} i (inl c) b = subst (λ (z : Op). r' contains z) (adds_one a (subst (λ (z : Entry). Adds t z q) c b)) (inserted_new i)
          all i (inr m) b = inserted_old i (L.all _ (record { entry = _; there = m; adds = b }))

          only : {q : Op} → (q ≡ o) ⊎ (r contains q) → Added t (e ∷ l) q
          only (inl c) = record { entry = e; there = Memᴰ.head refl; adds = subst (λ (z : Op). Adds t e z) (sym c) a }
          only (inr m) = let b = L.only _ m in record { entry = b.entry; there = Memᴰ.tail b.there; adds = b.adds }

    line_same : {e : Entry} → ((o : Op) × Adds t e o → ⊥) → Line t (e ∷ l) r
    line_same {e} n = record {
      all = λ o b. all (Memᴰ.cases_cons b.there) b.adds;
      only = λ o m. let b = L.only o m in record { entry = b.entry; there = Memᴰ.tail b.there; adds = b.adds };
      lined = L.lined;
      descending = L.descending;
    }
      where
        all : {o : Op} {f : Entry} → (f ≡ e) ⊎ (l ∋ f) → Adds t f o → r contains o
        all {o} (inl c) b = absurd (n (o, subst (λ (z : Entry). Adds t z o) c b))
        all (inr m) b = L.all _ (record { entry = _; there = m; adds = b })

  line : (l : Log) → Past t l → (r : Ops) × Line t l r
  line [] p = (
    [],
    record {
      all = λ o b. absurd (Memᴰ.not-nil b.there);
      only = λ o m. absurd (Memᴰ.not-nil m);
      lined = lined_nil;
      descending = desc_nil;
    },
  )
  line (e ∷ l) p = go (line l (back p)) (adds? t e)
    where
      go : (r : Ops) × Line t l r → Dec ((o : Op) × Adds t e o) → (r : Ops) × Line t (e ∷ l) r
      go s (yes a) = line_more s.1 p a.1
      go s (no n) = (s.0, line_same s.1 n)

  -- ---- what was put in is what counts

  added_counts : {o : Op} → Added t t o → Counts t o
  added_counts {o} b = go b.there b.adds
    where
      finished : {p : Op} → t ∋ settle o → Writes o → t ∋ finish p → p.stamp ≡ o.stamp → (a : Task) → p.task ≡ a → Counts t o
      finished m w k e reading c = returned m w k c e
      finished {p} m w k e (writing y) c =
          let u = why S k in
          ended (subst (λ (z : Op). t ∋ finish z) (write-once S (past_has (back u.past) u.is.settled) m (y, c) w e) k)

      go : {e : Entry} → t ∋ e → Adds t e o → Counts t o
      go m (adds_write w s) = finished m w s.1 s.2 s.0.task refl
      go m (adds_read f) = ended m

  counts_added : {o : Op} → Counts t o → Added t t o
  counts_added {o} (returned {p = p} m w k f e) = record { entry = settle o; there = m; adds = adds_write w (p, k, e) }
  counts_added {o} (ended m) = go o.task refl
    where
      go : (a : Task) → o.task ≡ a → Added t t o
      go reading e = record { entry = finish o; there = m; adds = adds_read e }
      go (writing y) e =
          let u = why S m in
          record { entry = settle o; there = past_has (back u.past) u.is.settled; adds = adds_write (y, e) (o, m, refl) }

  -- THEOREM: the operations of a sound log have an order
  pub one_order : (r : Ops) × Order t r × Descending r
  one_order =
      let (r, s) = line t now in
      (r, record { all = λ o c. s.all o (counts_added c); only = λ o m. added_counts (s.only o m); lined = s.lined }, s.descending)

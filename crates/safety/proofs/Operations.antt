-- Operations of a sound log:
--   `inequality`  an operation that began after another had finished has at least its stamp, and a write a greater one;
--   `write-once`  two writes never settle on the same stamp;
--   `backed`      a stamp and a value that stand together in the log are 0 and 0, or those of a write.
-- Assumes nothing.
use mathlib.Core.Path.{◌≡◌, refl, sym, subst, ◌∙◌}
use mathlib.Core.List.Memᴰ
use mathlib.Core.List.{List, [], ◌∷◌}
use Prim.Native.Nat.{ℕ, ◌+◌, ◌*◌, ◌≤◌, ◌<◌}
use native.Mathlib.Omega.{arith}
use Rattle.rules.specs.Stamps.{Value, no_value}
use Rattle.safety.proofs.Setting.{Setting}
use Rattle.safety.proofs.Quorums.{Most, most-map}
use Rattle.safety.proofs.Log.{Task, reading, writing, Op, Ask, get, put, Entry, Log, ◌∋◌, state, enter, begin, ask, reply, settle, finish, Has, has_start, has_shown, by_enter, by_reply, Best, best_none, best_one, Sends, sends-get, sends-put, Answered, Result, read_result, write_result, Ends, agreed, put_down, Answers, got, kept, stored, Justified, Sound}
use Rattle.safety.proofs.Past.{Past, now, back, past_has, past_trans, places, Places, same, earlier, later, here, sound-past, justified, because, Why, why}
use Rattle.safety.proofs.Stay.{Reached, reached_later, Late, carried}

abbrev pub Writes : Op → Type 0
Writes o = (y : Value) × (o.task ≡ writing y)

abbrev pub Reads : Op → Type 0
Reads o = o.task ≡ reading

-- o had finished when p began
pub record Precedes (t : Log) (o p : Op) : Type 0 where
  pub before : Log
  pub began : Past t (begin p.desk p.try p.task ∷ before)
  pub ended : before ∋ finish o

module _ {C : Setting} {t : Log} (S : Sound C t) where
  -- ---- names that are given once

  pub ask_once : {d n a b v w : ℕ} {x y : Ask} → t ∋ ask d n a v x → t ∋ ask d n b w y → (a ≡ b) × (v ≡ w) × (x ≡ y)
  ask_once {d} {n} {a} {b} {v} {w} {x} {y} m k = go (why S m) (why S k)
    where
      go : Why C t (ask d n a v x) → Why C t (ask d n b w y) → (a ≡ b) × (v ≡ w) × (x ≡ y)
      go f g = pick (places f.past g.past)
        where
          pick : Places (ask d n a v x) f.before (ask d n b w y) g.before → (a ≡ b) × (v ≡ w) × (x ≡ y)
          pick (same e h) = (cc, cc, cc)
          pick (earlier h) = absurd (omega (arith, g.is.fresh n a v x (here h)))
          pick (later h) = absurd (omega (arith, f.is.fresh n b w y (here h)))

  -- so an answer to a try was given in the view that was asked
  pub reply_view : {k d n a v w s : ℕ} {y : Value} {x : Ask} → t ∋ reply k d n v s y → t ∋ ask d n a w x → v ≡ w
  reply_view m h = let f = why S m in (ask_once (past_has (back f.past) f.is.to) h).1

  pub begin-once : {d n : ℕ} {a b : Task} {l m : Log} → Past t (begin d n a ∷ l) → Past t (begin d n b ∷ m) → l ≡ m
  begin-once {d} {n} {a} {b} {l} {m} p q = go (places p q)
    where
      go : Places (begin d n a) l (begin d n b) m → l ≡ m
      go (same e h) = h
      go (earlier h) = absurd (omega (arith, (justified S q).fresh n a (here h)))
      go (later h) = absurd (omega (arith, (justified S p).fresh n b (here h)))

  pub settle_once : {o p : Op} → t ∋ settle o → t ∋ settle p → o.desk ≡ p.desk → o.try ≡ p.try → o ≡ p
  settle_once {o} {p} m n d e = go (why S m) (why S n)
    where
      go : Why C t (settle o) → Why C t (settle p) → o ≡ p
      go f g = pick (places f.past g.past)
        where
          pick : Places (settle o) f.before (settle p) g.before → o ≡ p
          pick (same e h) = cc
          pick (earlier h) = absurd (g.is.once o (here h) d e)
          pick (later h) = absurd (f.is.once p (here h) (sym d) (sym e))

  -- ---- the inequality

  -- an operation that ends has its stamp in a quorum
  put_reached : {l : Log} {k d n a v s : ℕ} {y : Value} {r : ℕ} {z : Value} → Past t l → l ∋ ask d n a v (put s y) → l ∋ reply k d n v r z → Reached l v s k
  put_reached {l} {k} {d} {n} {a} {v} {s} {y} {r} {z} p m h = go (why S (past_has p h))
    where
      low : {x : Ask} → x ≡ put s y → {m : Log} → Answers C m k v r z x → s ≤ r
      low e (got f) = let z : ◌≡◌ {A = ℕ} 0 1 = cc in omega arith
      low e (kept {r = r'} f g) = let c : r' ≡ s = cc in omega arith
      low e stored = let c : r ≡ s = cc in omega arith

      go : Why C t (reply k d n v r z) → Reached l v s k
      go w = record {
        desk = d;
        try = n;
        stamp = r;
        value = z;
        sent = h;
        high = low (ask_once (past_has (back w.past) w.is.to) (past_has p m)).2 w.is.answers;
      }

  ends_reached : {l : Log} {o : Op} → Past t l → Ends C l o → (v : ℕ) × Most C v (Reached l v o.stamp)
  ends_reached {o = o} p (agreed {t = n} {v = v} h) =
      (v, most-map (λ k a. record { desk = o.desk; try = n; stamp = o.stamp; value = a.0; sent = a.1; high = omega arith }) h)
  ends_reached p (put_down {v = v} m h) = (v, most-map (λ k a. put_reached p m a.2) h)

  -- and it settles by answers that were given after it began
  asked-after : {l m : Log} {d n a c v : ℕ} {b : Task} {x : Ask} → Past t (begin d a b ∷ l) → Past t m → m ∋ ask d n c v x → c ≡ a → Past m l
  asked-after {l} {m} {d} {n} {a} {c} {v} {b} {x} p q h e = go (why (sound-past S q) h)
    where
      go : Why C m (ask d n c v x) → Past m l
      go w =
          let (b', g) = w.is.begun in
          let u = why (sound-past S (back (past_trans q w.past))) g in
          let r : Past m (begin d c b' ∷ u.before) = past_trans (back w.past) u.past in
          subst (λ (z : Log). Past m z) (begin-once (past_trans q r) (subst (λ (z : ℕ). Past t (begin d z b ∷ l)) (sym e) p)) (back r)

  late : {l m : Log} {k d n a v s : ℕ} {b : Task} → Past t (begin d a b ∷ l) → Past t m → m ∋ ask d n a v get → Answered m d n v s k
      → (h : Late S l v k) × (h.stamp ≤ s)
  late {l} {m} {k} {d} {n} {a} {v} {s} p q g h = go (why (sound-past S q) h.sent)
    where
      go : Why C m (reply k d n v h.stamp h.value) → (h : Late S l v k) × (h.stamp ≤ s)
      go w =
          let z = past_trans q w.past in
          let e = (ask_once (past_has (back z) w.is.to) (past_has q g)).0 in
          (record { desk = d; try = n; stamp = h.stamp; value = h.value; before = w.before; past = z; after = asked-after p (back z) w.is.to e }, h.low)

  -- what is below an operation's stamp
  abbrev pub Below : Task → ℕ → ℕ → Type 0
  Below reading r s = r ≤ s
  Below (writing y) r s = r < s

  result_below : {l m : Log} {d n a v s : ℕ} {y : Value} {r u : ℕ} {b c : Task} → Past t (begin d a c ∷ l) → Past t m → m ∋ ask d n a v get
      → Result C m d n v b s y → Most C u (Reached l u r) → Below b r s
  result_below {s = s} p q g (read_result h f) st =
      let c = carried S {P = λ z. z ≤ s} (back p) st (most-map (λ k a. late p q g a) h) in
      omega (arith, c.1, c.2)
  result_below p q g (write_result c h) st =
      let e = carried S {P = λ z. z ≤ 4 * c + 3} (back p) st (most-map (λ k a. late p q g a) h) in
      omega (arith, e.1, e.2)

  pub inequality : {o p : Op} → Precedes t o p → t ∋ settle p → Below p.task o.stamp p.stamp
  inequality {o} {p} h m = go (why (sound-past S (back h.began)) h.ended) (why S m)
    where
      go : Why C h.before (finish o) → Why C t (settle p) → Below p.task o.stamp p.stamp
      go f w =
          let e = ends_reached (back (past_trans (back h.began) f.past)) f.is.ends in
          result_below h.began (back w.past) w.is.asked w.is.result (most-map (λ k r. reached_later (back f.past) r) e.1)

  pub never_less : {o p : Op} → Precedes t o p → t ∋ settle p → o.stamp ≤ p.stamp
  never_less {o} {p} h m = go p.task (inequality h m)
    where
      go : (b : Task) → Below b o.stamp p.stamp → o.stamp ≤ p.stamp
      go reading e = e
      go (writing y) e = omega arith

  -- ---- the stamps of writes

  -- a write's stamp holds its desk, and is not 0
  write_stamp : {l : Log} {d n v s : ℕ} {y z : Value} {b : Task} → Result C l d n v b s y → b ≡ writing z → (c : ℕ) × (s ≡ 4 * (c + 1) + d) × (y ≡ z)
  write_stamp (read_result h f) e = let z : ◌≡◌ {A = ℕ} 0 1 = cc in absurd (omega arith)
  write_stamp (write_result c h) e = (c, refl, cc)

  settled_stamp : {o : Op} → t ∋ settle o → Writes o → (c : ℕ) × (o.stamp ≡ 4 * (c + 1) + o.desk) × (o.desk < 4)
  settled_stamp {o} m w =
      let f = why S m in
      let g = write_stamp f.is.result w.1 in
      (g.0, g.1, (why S (past_has (back f.past) f.is.begun)).is.small)

  pub write_positive : {o : Op} → t ∋ settle o → Writes o → 0 < o.stamp
  write_positive m w = let g = settled_stamp m w in omega (arith, g.1)

  -- of two writes of one desk one had finished when the other began, so their stamps differ
  before-write : {o p : Op} {l : Log} → t ∋ settle o → t ∋ settle p → Writes p → Past t (begin p.desk p.try p.task ∷ l)
      → l ∋ begin o.desk o.try o.task → o.desk ≡ p.desk → o.stamp < p.stamp
  before-write {o} {p} {l} m n w b g e = go p.task w.1 (inequality (record { before = l; began = b; ended = ended }) n)
    where
      finished : (f : Op) × (l ∋ finish f) × (f.desk ≡ p.desk) × (f.try ≡ o.try)
      finished = (justified S b).idle o.try o.task (subst (λ (d : ℕ). l ∋ begin d o.try o.task) e g)

      ended : l ∋ finish o
      ended =
          let (f, h, d, i) = finished in
          let u = why S (past_has (back b) h) in
          subst (λ (z : Op). l ∋ finish z) (settle_once (past_has (back u.past) u.is.settled) m (d ∙ sym e) i) h

      go : (a : Task) → a ≡ writing w.0 → Below a o.stamp p.stamp → o.stamp < p.stamp
      go reading c h = let z : ◌≡◌ {A = ℕ} 0 1 = cc in absurd (omega arith)
      go (writing y) c h = h

  pub write-once : {o p : Op} → t ∋ settle o → t ∋ settle p → Writes o → Writes p → o.stamp ≡ p.stamp → o ≡ p
  write-once {o} {p} m n v w e = go (begins m) (begins n)
    where
      desks : o.desk ≡ p.desk
      desks =
          let x = settled_stamp m v in
          let y = settled_stamp n w in
          omega (arith, x.1, x.2, y.1, y.2)

      begins : {a : Op} → t ∋ settle a → Why C t (begin a.desk a.try a.task)
      begins k = let f = why S k in why S (past_has (back f.past) f.is.begun)

      go : Why C t (begin o.desk o.try o.task) → Why C t (begin p.desk p.try p.task) → o ≡ p
      go f g = pick (places f.past g.past)
        where
          pick : Places (begin o.desk o.try o.task) f.before (begin p.desk p.try p.task) g.before → o ≡ p
          pick (same c d) = settle_once m n desks (cc)
          pick (earlier h) = absurd (omega (arith, before-write m n w g.past (here h) desks))
          pick (later h) = absurd (omega (arith, before-write n m v f.past (here h) (sym desks)))

-- ---- stamps and their values

-- the entries that hold a stamp with a value
data Holds : Entry → ℕ → Value → Type 0 where
  in_enter : {k o w s : ℕ} {y : Value} {q : List ℕ} → Holds (enter k o w q s y) s y
  in_reply : {k d n v s : ℕ} {y : Value} → Holds (reply k d n v s y) s y
  in_state : {k x o w s : ℕ} {y : Value} → Holds (state k x o w s y) s y
  in_settle : {o : Op} → Holds (settle o) o.stamp o.value

-- 0 and 0, or the stamp and the value of a write
pub data Backed (t : Log) (s : ℕ) (y : Value) : Type 0 where
  nothing : s ≡ 0 → y ≡ no_value → Backed t s y
  written : {o : Op} → t ∋ settle o → Writes o → o.stamp ≡ s → o.value ≡ y → Backed t s y

module _ {C : Setting} {t : Log} (S : Sound C t) where
  module _ {l : Log} (p : Past t l) (ih : (e : Entry) (s : ℕ) (y : Value) → l ∋ e → Holds e s y → Backed t s y) where
    has_backed : {m : Log} {k v s : ℕ} {y : Value} → Past l m → Has C m k v s y → Backed t s y
    has_backed q (has_start e f g) = nothing f g
    has_backed q (has_shown (by_enter h)) = ih _ _ _ (past_has q h) in_enter
    has_backed q (has_shown (by_reply h)) = ih _ _ _ (past_has q h) in_reply

    put_backed : {d n a v s : ℕ} {y : Value} → l ∋ ask d n a v (put s y) → Backed t s y
    put_backed {d} {n} {a} {v} {s} {y} h = go (why (sound-past S p) h)
      where
        pick : {m : Log} {x : Ask} → Past l m → x ≡ put s y → Sends m d a x → Backed t s y
        pick q e sends-get = let z : ◌≡◌ {A = ℕ} 0 1 = cc in absurd (omega arith)
        pick q e (sends-put {o = o} h b c) =
            let f : o.stamp ≡ s = cc in
            let g : o.value ≡ y = cc in
            subst (λ (i : Value). Backed t s i) g (subst (λ (i : ℕ). Backed t i o.value) f (ih _ _ _ (past_has q h) in_settle))

        go : Why C l (ask d n a v (put s y)) → Backed t s y
        go w = pick (back w.past) refl w.is.sends

    answer_backed : {k d n a v s : ℕ} {y : Value} {x : Ask} → l ∋ ask d n a v x → Answers C l k v s y x → Backed t s y
    answer_backed h (got f) = has_backed now f
    answer_backed h (kept f g) = has_backed now f
    answer_backed h stored = put_backed h

    best_backed : {P : ℕ → Value → Type 0} {s : ℕ} {y : Value} → ((r : ℕ) (z : Value) → P r z → Backed t r z) → Best P s y → Backed t s y
    best_backed f (best_none d e) = nothing d e
    best_backed f (best_one h) = f _ _ h

    result_backed : {d n v s : ℕ} {y : Value} {b : Task} → ((z : Value) → b ≡ writing z → y ≡ z → Backed t s y) → Result C l d n v b s y → Backed t s y
    result_backed f (read_result h g) = best_backed (λ r z h. ih _ _ _ h.1 in_reply) g
    result_backed f (write_result c h) = f _ refl refl

    step_backed : {e : Entry} {s : ℕ} {y : Value} → t ∋ e → Justified C l e → Holds e s y → Backed t s y
    step_backed m j in_enter = best_backed (λ r z h. ih _ _ _ h.1.1 in_state) j.best
    step_backed m j in_reply = answer_backed j.to j.answers
    step_backed m j in_state = has_backed now j.has
    step_backed m j in_settle = result_backed (λ z e f. written m (z, e) refl refl) j.result

  holds_backed : (l : Log) → Past t l → (e : Entry) (s : ℕ) (y : Value) → l ∋ e → Holds e s y → Backed t s y
  holds_backed [] p e s y m h = absurd (Memᴰ.not-nil m)
  holds_backed (f ∷ l) p e s y (Memᴰ.tail m) h = holds_backed l (back p) e s y m h
  holds_backed (f ∷ l) p e s y (Memᴰ.head d) h = step_backed (back p) (holds_backed l (back p)) (past_has p (Memᴰ.head d)) (because S p d) h

  pub backed : {o : Op} → t ∋ settle o → Backed t o.stamp o.value
  backed {o} m = holds_backed t now _ _ _ m in_settle

  -- and a write's value is the one it was told
  pub write_value : {o : Op} {y : Value} → t ∋ settle o → o.task ≡ writing y → o.value ≡ y
  write_value m e = (write_stamp S (why S m).is.result e).2

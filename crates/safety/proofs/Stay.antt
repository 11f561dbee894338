-- What a sound log says of stamps and views:
--   `kept`    a stamp that a quorum of v has reached is reached by all who enter a view that strictly includes v;
--   `closed`  once such a view is entered, a quorum of v has left v for good;
--   `carried` a stamp that a quorum has reached is found by every quorum that answers later.
-- Assumes nothing.
use mathlib.Core.Path.{◌≡◌, sym, subst, ap, ◌∙◌}
use mathlib.Core.Logic.{◌⊎◌, inl, inr}
use mathlib.Core.List.Memᴰ
use mathlib.Core.List.{List, [], ◌∷◌}
use Prim.Native.Nat.{ℕ, ◌≤◌}
use native.Mathlib.Omega.{arith}
use Rattle.views.proofs.Sets.{Inside, inside_irrefl, inside_trans}
use Rattle.rules.specs.Stamps.{Value}
use Rattle.safety.proofs.Setting.{Setting}
use Rattle.safety.proofs.Sequences.{Comparable, same, inner, outer}
use Rattle.safety.proofs.Quorums.{Most, shared, someone, most-map}
use Rattle.safety.proofs.Facts.{Opened}
use Rattle.safety.proofs.Chain.{one_chain, start_least, passed, passes_least}
use Rattle.safety.proofs.Log.{tag, Log, ◌∋◌, raise, state, enter, reply, Shown, by_enter, by_reply, Has, has_start, has_shown, Active, active-start, active_enter, Given, Enter, Sound}
use Rattle.safety.proofs.Past.{Past, now, back, past_has, past_trans, places, Places, same as at_once, earlier, later, here, sound-past, justified, because, Why, why}
use Rattle.safety.proofs.Agreement.{Entered, history, opened, active-entered, facts}

-- k entered x with a stamp of at most s
pub record Came (l : Log) (k x s : ℕ) : Type 0 where
  pub old : ℕ
  pub sequence : List ℕ
  pub stamp : ℕ
  pub value : Value
  pub entry : l ∋ enter k old x sequence stamp value
  pub low : stamp ≤ s

-- k answered in v with a stamp of at least s
pub record Reached (l : Log) (v s k : ℕ) : Type 0 where
  pub desk : ℕ
  pub try : ℕ
  pub stamp : ℕ
  pub value : Value
  pub sent : l ∋ reply k desk try v stamp value
  pub high : s ≤ stamp

pub reached_later : {t l : Log} {v s k : ℕ} → Past t l → Reached l v s k → Reached t v s k
reached_later p r = record { desk = r.desk; try = r.try; stamp = r.stamp; value = r.value; sent = past_has p r.sent; high = r.high }

-- k left v: it handed on from there, or was seen in a view beyond
pub data Left (l : Log) (v k : ℕ) : Type 0 where
  handed_on : {o w s : ℕ} {y : Value} → l ∋ state k v o w s y → Inside v w → Left l v k
  moved_on : {x s : ℕ} {y : Value} → Shown l k x s y → Inside v x → Left l v k

shown_later : {t l : Log} {k v s : ℕ} {y : Value} → Past t l → Shown l k v s y → Shown t k v s y
shown_later p (by_enter m) = by_enter (past_has p m)
shown_later p (by_reply m) = by_reply (past_has p m)

pub left_later : {t l : Log} {v k : ℕ} → Past t l → Left l v k → Left t v k
left_later p (handed_on m i) = handed_on (past_has p m) i
left_later p (moved_on h i) = moved_on (shown_later p h) i

inside_eq : {u v w : ℕ} → Inside u v → v ≡ w → Inside u w
inside_eq {u} i e = subst (λ (x : ℕ). Inside u x) e i

module _ {C : Setting} {t : Log} (S : Sound C t) where
  -- a view in which a relay was active
  pub record Live (v : ℕ) : Type 0 where
    pub opened : Opened (history C t) v
    pub entered : Entered C t v

  pub live : {v s k : ℕ} → Reached t v s k → Live v
  live r = let w = why S r.sent in record { opened = opened S (back w.past) w.is.active; entered = active-entered S (back w.past) w.is.active }

  pub comparable : {u v : ℕ} → Entered C t u → Entered C t v → Comparable u v
  comparable = one_chain (history C t) (facts S)

  -- a relay in a view that includes an entered one came there by entering
  module _ {v : ℕ} (E : Entered C t v) where
    not_start : {x : ℕ} → Inside v x → x ≡ C.view → ⊥
    not_start i e = go (start_least (history C t) (facts S) E)
      where
        go : (C.view ≡ v) ⊎ Inside C.view v → ⊥
        go (inl d) = i.other (sym (e ∙ d))
        go (inr j) = inside_irrefl (inside_trans j (inside_eq i e))

    active_came : {l : Log} {k x s : ℕ} → Past t l → Inside v x → Active C l k x → ((r : ℕ) (y : Value) → Shown l k x r y → r ≤ s) → Came l k x s
    active_came p i (active-start e) h = absurd (not_start i e)
    active_came p i (active_enter m u) h = record { old = _; sequence = _; stamp = _; value = _; entry = m; low = h _ _ (by_enter m) }

    pub came : {l : Log} {k x s : ℕ} {y : Value} → Past t l → Inside v x → Has C l k x s y → Came l k x s
    came p i (has_start e f g) = absurd (not_start i e)
    came p i (has_shown (by_enter m)) = record { old = _; sequence = _; stamp = _; value = _; entry = m; low = omega arith }
    came {l} {k} {x} {s} p i (has_shown (by_reply m)) = go (why (sound-past S p) m)
      where
        go : {d n : ℕ} {y : Value} → Why C l (reply k d n x s y) → Came l k x s
        go w =
            let c = active_came (back (past_trans p w.past)) i w.is.active (λ r y h. low r (w.is.current x r y h)) in
            record { old = c.old; sequence = c.sequence; stamp = c.stamp; value = c.value; entry = past_has (back w.past) c.entry; low = c.low }
          where
            low : (r : ℕ) → Inside x x ⊎ ((x ≡ x) × (r ≤ s)) → r ≤ s
            low r (inl j) = absurd (inside_irrefl j)
            low r (inr j) = j.1

  module _ {v : ℕ} (L : Live v) where
    -- a view beyond v is entered from v, or from beyond v
    from : {l : Log} {o w s : ℕ} {y : Value} {q : List ℕ} → Past t l → Enter C l o w q s y → Inside v w → (o ≡ v) ⊎ Inside v o
    from {o = o} {q = q} p e i = go (comparable ((facts S).entered raised) L.entered)
      where
        raised : t ∋ raise o q
        raised = past_has p e.raised

        go : Comparable o v → (o ≡ v) ⊎ Inside v o
        go (same d) = inl d
        go (outer j) = inr j
        go (inner j) = absurd ((passed (history C t) (facts S) (passes_least (history C t) raised j i e.least)).unopened L.opened)

    beyond : {o x : ℕ} → Inside v o → (x ≡ o) ⊎ Inside o x → Inside v x
    beyond i (inl e) = inside_eq i (sym e)
    beyond i (inr j) = inside_trans i j

    -- ---- a stamp that a quorum of v has reached
    module _ {s : ℕ} (st : Most C v (Reached t v s)) where
      -- by a log of the past, all who entered a view beyond v came with that stamp
      abbrev Kept : Log → Type 0
      Kept l = (k o w : ℕ) (q : List ℕ) (r : ℕ) (y : Value) → l ∋ enter k o w q r y → Inside v w → s ≤ r

      has_kept : {l : Log} {k x r : ℕ} {y : Value} → Past t l → Kept l → Inside v x → Has C l k x r y → s ≤ r
      has_kept p h i a = let c = came L.entered p i a in omega (arith, h _ _ _ _ _ _ c.entry i, c.low)

      -- a relay hands on from v after all its answers in v
      hands_kept : {l : Log} {k o w r : ℕ} {y : Value} → Past t (state k v o w r y ∷ l) → Inside v w → Reached t v s k → s ≤ r
      hands_kept {l} {k} {o} {w} {r} {y} p i a = go (why S a.sent).past (places (why S a.sent).past p)
        where
          low : Inside v v ⊎ ((v ≡ v) × (a.stamp ≤ r)) → s ≤ r
          low (inl j) = absurd (inside_irrefl j)
          low (inr j) = omega (arith, j.1, a.high)

          go : {m : Log} → Past t (reply k a.desk a.try v a.stamp a.value ∷ m)
              → Places (reply k a.desk a.try v a.stamp a.value) m (state k v o w r y) l → s ≤ r
          go z (at_once c d) = absurd (omega (arith, ap tag c))
          go z (earlier h) = low ((justified S p).current v a.stamp a.value (by_reply (here h)))
          go z (later h) = absurd ((justified S z).going o w r y (here h) i)

      -- so what is handed on from v by one who had reached the stamp, or from beyond v, has it
      state-kept : {l : Log} {k x w r : ℕ} {y : Value} → Past t (state k x v w r y ∷ l) → Kept l → Inside v w → Reached t v s k → s ≤ r
      state-kept {l} {k} {x} {w} {r} {y} p h i a = go (justified S p).reached
        where
          go : (x ≡ v) ⊎ Inside v x → s ≤ r
          go (inl e) = hands_kept (subst (λ (z : ℕ). Past t (state k z v w r y ∷ l)) e p) i a
          go (inr j) = has_kept (back p) h j (justified S p).has

      kept_step : {l : Log} {o w r : ℕ} {y : Value} {q : List ℕ} → Past t l → Kept l → Enter C l o w q r y → Inside v w → s ≤ r
      kept_step {l} {o} {w} {r} {y} p h e i = go (from p e i)
        where
          earlier_kept : {m : Log} → Past l m → Kept m
          earlier_kept z k o w q r y a = h k o w q r y (past_has z a)

          go : (o ≡ v) ⊎ Inside v o → s ≤ r
          go (inl d) =
              let (k, a, g) = shared st (subst (λ (z : ℕ). Most C z (Given l z w r)) d e.given) in
              let n = why (sound-past S p) g.sent in
              omega (arith, g.low, state-kept (past_trans p n.past) (earlier_kept (back n.past)) i a)
          go (inr j) =
              let (k, g) = someone e.given in
              let n = why (sound-past S p) g.sent in
              omega (arith, g.low, has_kept (back (past_trans p n.past)) (earlier_kept (back n.past)) (beyond j n.is.reached) n.is.has)

      pub kept : (l : Log) → Past t l → (k o w : ℕ) (q : List ℕ) (r : ℕ) (y : Value) → l ∋ enter k o w q r y → Inside v w → s ≤ r
      kept [] p k o w q r y m i = absurd (Memᴰ.not-nil m)
      kept (e ∷ l) p k o w q r y (Memᴰ.tail m) i = kept l (back p) k o w q r y m i
      kept (e ∷ l) p k o w q r y (Memᴰ.head d) i = kept_step (back p) (kept l (back p)) (because S p d) i

    -- ---- who left v
    state-left : {l : Log} {k x w r : ℕ} {y : Value} → Past t l → Inside v w → l ∋ state k x v w r y → Left l v k
    state-left {l} {k} {x} {w} {r} {y} p i m = go (why (sound-past S p) m)
      where
        has_left : {n : Log} → Past l n → Inside v x → Has C n k x r y → Left l v k
        has_left z j (has_start e f g) = absurd (not_start L.entered j e)
        has_left z j (has_shown h) = left_later z (moved_on h j)

        go : Why C l (state k x v w r y) → Left l v k
        go n = pick n.is.reached
          where
            pick : (x ≡ v) ⊎ Inside v x → Left l v k
            pick (inl e) = handed_on (subst (λ (z : ℕ). l ∋ state k z v w r y) e m) i
            pick (inr j) = has_left (back n.past) j n.is.has

    abbrev Closed : Log → Type 0
    Closed l = (k o w : ℕ) (q : List ℕ) (r : ℕ) (y : Value) → l ∋ enter k o w q r y → Inside v w → Most C v (Left l v)

    closed_step : {l : Log} {o w r : ℕ} {y : Value} {q : List ℕ} → Past t l → Closed l → Enter C l o w q r y → Inside v w → Most C v (Left l v)
    closed_step {l} {o} {w} {r} {y} p h e i = go (from p e i)
      where
        far : {m : Log} {k x s : ℕ} {y : Value} → Past l m → Inside v x → Has C m k x s y → Most C v (Left l v)
        far z j a = let c = came L.entered (past_trans p z) j a in h _ _ _ _ _ _ (past_has z c.entry) j

        go : (o ≡ v) ⊎ Inside v o → Most C v (Left l v)
        go (inl d) = most-map (λ k g. state-left p i g.sent) (subst (λ (z : ℕ). Most C z (Given l z w r)) d e.given)
        go (inr j) =
            let (k, g) = someone e.given in
            let n = why (sound-past S p) g.sent in
            far (back n.past) (beyond j n.is.reached) n.is.has

    pub closed : (l : Log) → Past t l → (k o w : ℕ) (q : List ℕ) (r : ℕ) (y : Value) → l ∋ enter k o w q r y → Inside v w → Most C v (Left l v)
    closed [] p k o w q r y m i = absurd (Memᴰ.not-nil m)
    closed (e ∷ l) p k o w q r y (Memᴰ.tail m) i = most-map (λ j h. left_later (back now) h) (closed l (back p) k o w q r y m i)
    closed (e ∷ l) p k o w q r y (Memᴰ.head d) i = most-map (λ j h. left_later (back now) h) (closed_step (back p) (closed l (back p)) (because S p d) i)

  -- who left v does not answer there
  silent : {l : Log} {k d n v s : ℕ} {y : Value} → Past t (reply k d n v s y ∷ l) → Left l v k → ⊥
  silent p (handed_on m i) = (justified S p).going _ _ _ _ m i
  silent {v = v} p (moved_on {x = x} {s = r} h i) = go ((justified S p).current _ _ _ h)
    where
      go : {a : ℕ} → Inside x v ⊎ ((x ≡ v) × (r ≤ a)) → ⊥
      go (inl j) = inside_irrefl (inside_trans i j)
      go (inr j) = inside_irrefl (inside_eq i j.0)

  -- ---- quorums that answer one after the other

  -- k answered in v after the time l
  pub record Late (l : Log) (v k : ℕ) : Type 0 where
    pub desk : ℕ
    pub try : ℕ
    pub stamp : ℕ
    pub value : Value
    pub before : Log
    pub past : Past t (reply k desk try v stamp value ∷ before)
    pub after : Past before l

  late_reached : {l : Log} {v k : ℕ} (a : Late l v k) → Reached t v a.stamp k
  late_reached a = record { desk = a.desk; try = a.try; stamp = a.stamp; value = a.value; sent = here a.past; high = omega arith }

  -- a later answer in the same view
  again : {l : Log} {v s k : ℕ} → Reached l v s k → (a : Late l v k) → s ≤ a.stamp
  again {v = v} {s = s} r a = go ((justified S a.past).current v r.stamp r.value (by_reply (past_has a.after r.sent)))
    where
      go : Inside v v ⊎ ((v ≡ v) × (r.stamp ≤ a.stamp)) → s ≤ a.stamp
      go (inl i) = absurd (inside_irrefl i)
      go (inr i) = omega (arith, i.1, r.high)

  pub carried : {l : Log} {u v s : ℕ} {P : ℕ → Type 0} → Past t l → Most C u (Reached l u s) → Most C v (λ k. (a : Late l v k) × P a.stamp)
      → (r : ℕ) × P r × (s ≤ r)
  carried {l} {u} {v} {s} {P} p st h = go (comparable U.entered W.entered)
    where
      U : Live u
      U = live (reached_later p (someone st).1)

      W : Live v
      W = live (late_reached (someone h).1.0)

      go : Comparable u v → (r : ℕ) × P r × (s ≤ r)
      go (same e) =
          let (k, r, a) = shared (subst (λ (x : ℕ). Most C x (Reached l x s)) e st) h in
          (a.0.stamp, a.1, again r a.0)
      go (inner i) =
          let (k, a) = someone h in
          let c = came U.entered now i (has_shown (by_reply (here a.0.past))) in
          (a.0.stamp, a.1, omega (arith, kept U (most-map (λ j r. reached_later p r) st) t now _ _ _ _ _ _ c.entry i, c.low))
      go (outer i) =
          let (k, r) = someone st in
          let c = came W.entered p i (has_shown (by_reply r.sent)) in
          let (j, g, a) = shared (closed W l p _ _ _ _ _ _ c.entry i) h in
          absurd (silent a.0.past (left_later a.0.after g))

-- A sound log has the facts of `Facts.antt`. So any two views that were entered are comparable, and a view that a raised sequence passes
-- over was never opened.
-- Assumes nothing.
use mathlib.Core.Path.{◌≡◌, subst}
use mathlib.Core.Logic.{◌⊎◌, inl, inr}
use mathlib.Core.List.Memᴰ
use mathlib.Core.List.{List, [], ◌∷◌}
use Prim.Native.Nat.{ℕ}
use Rattle.rules.specs.Stamps.{Value}
use Rattle.safety.proofs.Setting.{Setting}
use Rattle.safety.proofs.Sequences.{◌∈◌, ◌⊆◌, Sequence, Nested, Chain}
use Rattle.safety.proofs.Votes.{Gathered, given, both, gathered_chain, gathered-nested}
use Rattle.safety.proofs.Quorums.{shared, someone}
use Rattle.safety.proofs.Facts.{History, Opened, at_start, alone, Origin, entry, timer, Arrival, start as start-view, through, Facts}
use Rattle.safety.proofs.Log.{Log, ◌∋◌, first, own, conv, raise, enter, Active, active-start, active_enter, First, by_timer, by_entry, Merge, clash, joined, OwnFrom, own_first, own_merge, Sound}
use Rattle.safety.proofs.Past.{Past, now, back, past_has, places, Places, same, earlier, later, here, justified, because, Why, why}

pub data Entered (C : Setting) (t : Log) (w : ℕ) : Type 0 where
  from_start : w ≡ C.view → Entered C t w
  by_relay : {k o s : ℕ} {y : Value} {q : List ℕ} → t ∋ enter k o w q s y → Entered C t w

-- the history that a log tells
abbrev pub history : Setting → Log → History
history C t = record {
  start = C.view;
  Entered = Entered C t;
  Raised = λ v q. t ∋ raise v q;
  Proposed = λ v q. (k : ℕ) × (t ∋ first k v q);
}

module _ {C : Setting} {t : Log} (S : Sound C t) where
  -- what is raised was some relay's own
  raised-own : {v : ℕ} {q : List ℕ} → t ∋ raise v q → (k : ℕ) × (t ∋ own k v q)
  raised-own m =
      let r = why S m in
      let (k, c) = someone r.is in
      let w = why S (past_has (back r.past) c) in
      (k, past_has (back w.past) w.is.own_now)

  -- a relay's converged sequences are nested
  conv_chain : (k v : ℕ) → Chain (λ q. t ∋ conv k v q)
  conv_chain k v p q m n =
      let x = why S m in
      let y = why S n in
      go x.past y.past (places x.past y.past)
    where
      go : {l r : Log} → Past t (conv k v p ∷ l) → Past t (conv k v q ∷ r) → Places (conv k v p) l (conv k v q) r → Nested p q
      go x y (same c d) = let e : p ≡ q = cc in inl (subst (λ (z : List ℕ). p ⊆ z) e (λ w h. h))
      go x y (earlier h) = inl ((justified S y).grown p (here h))
      go x y (later h) = inr ((justified S x).grown q (here h))

  pub opened : {l : Log} {k v : ℕ} → Past t l → Active C l k v → Opened (history C t) v
  opened x (active-start e) = at_start e
  opened x (active_enter m i) = let w = why S (past_has x m) in alone (past_has (back w.past) w.is.raised) i

  own-sequence : {k v : ℕ} {q : List ℕ} → t ∋ own k v q → Sequence q
  own-sequence m = (why S m).is.sequence

  -- an own sequence is gathered from first proposals, if these form a chain
  module _ {v : ℕ} (c : Chain ((history C t).Proposed v)) where
    abbrev FromFirst : List ℕ → Type 0
    FromFirst = Gathered ((history C t).Proposed v)

    merge : {p r q : List ℕ} → Sequence p → Sequence r → FromFirst p → FromFirst r → Merge p r q → FromFirst q
    merge a b g h (joined u) = both g h u
    merge {p = p} {r = r} a b g h (clash {u = u} {v = w} i j f) = absurd (go (gathered-nested c g h))
      where
        go : Nested p r → ⊥
        go (inl k) = f (b.nested u w (k u i) j)
        go (inr k) = f (a.nested u w i (k w j))

    -- where its own sequence was empty, a relay takes what it hears
    take : {p r q : List ℕ} → p ≡ [] → FromFirst r → Merge p r q → FromFirst q
    take {p = p} {r = r} e h (clash {u = u} i j f) = absurd (Memᴰ.not-nil (subst (λ (z : List ℕ). u ∈ z) e i))
    take {p = p} {r = r} {q = q} e h (joined u) = both h h (record { left = u.right; right = u.right; from = λ w m. go w (u.from w m) })
      where
        go : (w : ℕ) → (w ∈ p) ⊎ (w ∈ r) → (w ∈ r) ⊎ (w ∈ r)
        go w (inl m) = absurd (Memᴰ.not-nil (subst (λ (z : List ℕ). w ∈ z) e m))
        go w (inr m) = inr m

    gathered : (l : Log) → Past t l → (k : ℕ) (q : List ℕ) → l ∋ own k v q → FromFirst q
    gathered [] x k q m = absurd (Memᴰ.not-nil m)
    gathered (e ∷ l) x k q (Memᴰ.tail m) = gathered l (back x) k q m
    gathered (e ∷ l) x k q (Memᴰ.head d) = go (gathered l (back x)) (because S x d).from
      where
        go : ((k : ℕ) (q : List ℕ) → l ∋ own k v q → FromFirst q) → OwnFrom l k v q → FromFirst q
        go ih (own_first m) = given (k, past_has (back x) m)
        go ih (own_merge (inl z) m g) = take z (ih _ _ m) g
        go ih (own_merge (inr n) m g) = merge (own-sequence (past_has (back x) n)) (own-sequence (past_has (back x) m)) (ih k _ n) (ih _ _ m) g

  -- and there is a first proposal in any case
  proposed : (l : Log) → Past t l → (k v : ℕ) (q : List ℕ) → l ∋ own k v q → (j : ℕ) × (p : List ℕ) × (t ∋ first j v p)
  proposed [] x k v q m = absurd (Memᴰ.not-nil m)
  proposed (e ∷ l) x k v q (Memᴰ.tail m) = proposed l (back x) k v q m
  proposed (e ∷ l) x k v q (Memᴰ.head d) = go (proposed l (back x)) (because S x d).from
    where
      go : ((k v : ℕ) (q : List ℕ) → l ∋ own k v q → (j : ℕ) × (p : List ℕ) × (t ∋ first j v p)) → OwnFrom l k v q
          → (j : ℕ) × (p : List ℕ) × (t ∋ first j v p)
      go ih (own_first m) = (k, q, past_has (back x) m)
      go ih (own_merge n m g) = ih _ v _ m

  pub active-entered : {l : Log} {k v : ℕ} → Past t l → Active C l k v → Entered C t v
  active-entered x (active-start e) = from_start e
  active-entered x (active_enter m i) = by_relay (past_has x m)

  first-entered : {k v : ℕ} {q : List ℕ} → Why C t (first k v q) → Entered C t v
  first-entered {k} {v} {q} w = go w.is
    where
      go : First C w.before k v q → Entered C t v
      go (by_timer a) = active-entered (back w.past) a
      go (by_entry m i) = by_relay (past_has (back w.past) m)

  first_origin : {k v : ℕ} {q : List ℕ} → Why C t (first k v q) → Origin (history C t) v q
  first_origin {k} {v} {q} w = go w.is
    where
      go : First C w.before k v q → Origin (history C t) v q
      go (by_timer a) = timer (opened (back w.past) a)
      go (by_entry m i) = let n = why S (past_has (back w.past) m) in entry (past_has (back n.past) n.is.raised) n.is.least i

  arrival : {v : ℕ} → Entered C t v → Arrival (history C t) v
  arrival (from_start e) = start-view e
  arrival (by_relay m) = let n = why S m in through (past_has (back n.past) n.is.raised) n.is.least

  pub facts : Facts (history C t)
  facts = record {
    sequence = λ {v} {q} m. own-sequence (raised-own m).1;
    above = λ {v} {q} m. (why S (raised-own m).1).is.above;
    entered = λ {v} {q} m. first-entered (why S (proposed t now _ v q (raised-own m).1).2);
    chain = λ v p q m n.
        let x = why S m in
        let y = why S n in
        let (k, a, b) = shared x.is y.is in
        conv_chain k v p q (past_has (back x.past) a) (past_has (back y.past) b);
    origin = λ {v} {p} m. first_origin (why S m.1);
    agreed = λ v c q m.
        let a = gathered_chain c (gathered c t now _ q (raised-own m).1) in
        (a.it, a.is, a.sub);
    arrival = arrival;
  }

-- What the log must say of a relay, by what the relay remembers: each kind of entry keeps it and is justified by it.
-- Assumes nothing.
use mathlib.Core.Path.{◌≡◌, refl, sym, subst, ap}
use mathlib.Core.Logic.{◌⊎◌, inl, inr}
use mathlib.Core.Bool.{Bool, true, false, false≢true}
use mathlib.Core.List.Memᴰ
use mathlib.Core.List.{List, [], ◌∷◌}
use Prim.Native.Nat.{ℕ, ◌≤◌, ◌<◌}
use native.Mathlib.Omega.{arith}
use Rattle.views.proofs.Sets.{Inside, inside_irrefl, inside_trans}
use Rattle.rules.specs.Stamps.{Value, no_value}
use Rattle.safety.proofs.Setting.{Setting}
use Rattle.safety.proofs.Sequences.{Single}
use Rattle.safety.proofs.Log.{Ask, Entry, tag, Log, ◌∋◌, state, enter, ask, reply, Shown, by_enter, by_reply, Current, Has, has_start, has_shown, Active, active-start, active_enter, State, Answers, Reply}
use Rattle.safety.proofs.Growth.{of_relay, doer, About}
use Rattle.safety.proofs.Entries.{older, past-kind}

-- ---- a relay

-- the relay k has the view v, the stamp s and the value y, has entered or not, and is active or not
pub record RelayFacts (C : Setting) (l : Log) (k v s : ℕ) (y : Value) (in-view active : Bool) : Type 0 where
  pub has : in-view ≡ true → Has C l k v s y
  pub current : Current l k v s
  pub handed : (x o w r : ℕ) (z : Value) → l ∋ state k x o w r z → (x ≡ v) ⊎ Inside x v
  pub opened : active ≡ true → Active C l k v
  pub going : active ≡ true → (o w r : ℕ) (z : Value) → l ∋ state k v o w r z → Inside v w → ⊥

-- what an entry e may add to what is shown of k
shown_cases : {l : Log} {e : Entry} {k u c : ℕ} {x : Value} {A : Type 0} → Shown (e ∷ l) k u c x
    → ((o : ℕ) (q : List ℕ) → enter k o u q c x ≡ e → A) → ((d n : ℕ) → reply k d n u c x ≡ e → A) → (Shown l k u c x → A) → A
shown_cases {l} {e} {k} {u} {c} {x} {A} (by_enter {o = o} {q = q} m) f g h = go (Memᴰ.cases_cons m)
  where
    go : (enter k o u q c x ≡ e) ⊎ (l ∋ enter k o u q c x) → A
    go (inl d) = f o q d
    go (inr m) = h (by_enter m)
shown_cases {l} {e} {k} {u} {c} {x} {A} (by_reply {d = b} {t = n} m) f g h = go (Memᴰ.cases_cons m)
  where
    go : (reply k b n u c x ≡ e) ⊎ (l ∋ reply k b n u c x) → A
    go (inl d) = g b n d
    go (inr m) = h (by_reply m)

current-raised : {l : Log} {k v s b : ℕ} → Current l k v s → s ≤ b → Current l k v b
current-raised {v = v} {s = s} {b = b} f g u c x h = go (f u c x h)
  where
    go : Inside u v ⊎ ((u ≡ v) × (c ≤ s)) → Inside u v ⊎ ((u ≡ v) × (c ≤ b))
    go (inl i) = inl i
    go (inr e) = inr (e.0, omega (arith, e.1))

unshown : {k v s : ℕ} {y : Value} → Shown [] k v s y → ⊥
unshown (by_enter m) = Memᴰ.not-nil m
unshown (by_reply m) = Memᴰ.not-nil m

shown_more : {l : Log} {e : Entry} {k v s : ℕ} {y : Value} → Shown l k v s y → Shown (e ∷ l) k v s y
shown_more (by_enter m) = by_enter (Memᴰ.tail m)
shown_more (by_reply m) = by_reply (Memᴰ.tail m)

module _ {C : Setting} {l : Log} {k v s : ℕ} {y : Value} {i a : Bool} (r : RelayFacts C l k v s y i a) where
  has_more : {e : Entry} → i ≡ true → Has C (e ∷ l) k v s y
  has_more {e} c = go (r.has c)
    where
      go : Has C l k v s y → Has C (e ∷ l) k v s y
      go (has_start b c d) = has_start b c d
      go (has_shown h) = has_shown (shown_more h)

  active_more : {e : Entry} → a ≡ true → Active C (e ∷ l) k v
  active_more {e} c = go (r.opened c)
    where
      go : Active C l k v → Active C (e ∷ l) k v
      go (active-start b) = active-start b
      go (active_enter m u) = active_enter (Memᴰ.tail m) u

  -- an entry that is not about k
  pub relay_other : {e : Entry} → (About k e → ⊥) → RelayFacts C (e ∷ l) k v s y i a
  relay_other {e} n = record {
    has = has_more;
    current = λ u b z h. shown_cases h (λ o q c. absurd (other c refl (omega arith))) (λ d m c. absurd (other c refl (omega arith))) (λ h. r.current u b z h);
    handed = λ x o w b z m. r.handed x o w b z (older (λ c. other c refl (omega arith)) m);
    opened = active_more;
    going = λ c o w b z m j. r.going c o w b z (older (λ c. other c refl (omega arith)) m) j;
  }
    where
      other : {f : Entry} → f ≡ e → doer f ≡ of_relay k → 3 < tag f → ⊥
      other c h i = n (rw c at h, rw c at i)

  -- k enters w
  pub relay_enter : {o w b : ℕ} {z : Value} {q : List ℕ} {opens : Bool} → Inside v w → (opens ≡ true → Single w q)
      → RelayFacts C (enter k o w q b z ∷ l) k w b z true opens
  relay_enter {o} {w} {b} {z} {q} j f = record {
    has = λ c. has_shown (by_enter (Memᴰ.head refl));
    current = λ u c x h. shown_cases h
        (λ o' q' d. inr (cc, (let e : c ≡ b = cc in omega arith)))
        (λ d n e. absurd (omega (arith, ap tag e)))
        (λ h. inl (behind (r.current u c x h)));
    handed = λ x o' w' c d m. inr (left (r.handed x o' w' c d (past-kind (omega arith) m)));
    opened = λ c. active_enter (Memᴰ.head refl) (f c);
    going = λ c o' w' d x m h. absurd (fresh (r.handed w o' w' d x (past-kind (omega arith) m)));
  }
    where
      behind : {u c : ℕ} → Inside u v ⊎ ((u ≡ v) × (c ≤ s)) → Inside u w
      behind (inl h) = inside_trans h j
      behind (inr h) = subst (λ (x : ℕ). Inside x w) (sym h.0) j

      left : {x : ℕ} → (x ≡ v) ⊎ Inside x v → Inside x w
      left (inl e) = subst (λ (x : ℕ). Inside x w) (sym e) j
      left (inr h) = inside_trans h j

      fresh : (w ≡ v) ⊎ Inside w v → ⊥
      fresh (inl e) = j.other (sym e)
      fresh (inr h) = inside_irrefl (inside_trans h j)

  -- k answers
  pub relay_reply : {d n b : ℕ} {z : Value} → s ≤ b → RelayFacts C (reply k d n v b z ∷ l) k v b z i a
  relay_reply {d} {n} {b} {z} g = record {
    has = λ c. has_shown (by_reply (Memᴰ.head refl));
    current = λ u c x h. shown_cases h
        (λ o' q' d. absurd (omega (arith, ap tag d)))
        (λ d n e. inr (cc, (let e : c ≡ b = cc in omega arith)))
        (λ h. current-raised r.current g u c x h);
    handed = λ x o' w' c d m. r.handed x o' w' c d (past-kind (omega arith) m);
    opened = active_more;
    going = λ c o' w' d x m h. r.going c o' w' d x (past-kind (omega arith) m) h;
  }

  -- k hands on, and stops where w is beyond its view
  pub relay_state : {o w : ℕ} {goes : Bool} → (goes ≡ true → (a ≡ true) × (Inside v w → ⊥)) → RelayFacts C (state k v o w s y ∷ l) k v s y i goes
  relay_state {o} {w} {goes} f = record {
    has = has_more;
    current = λ u c x h. shown_cases h
        (λ o' q' d. absurd (omega (arith, ap tag d)))
        (λ d n e. absurd (omega (arith, ap tag e)))
        (λ h. r.current u c x h);
    handed = λ x o' w' c d m. handed (Memᴰ.cases_cons m);
    opened = λ c. active_more (f c).0;
    going = λ c o' w' d x m h. going c (Memᴰ.cases_cons m) h;
  }
    where
      handed : {x o' w' b' : ℕ} {z' : Value} → (state k x o' w' b' z' ≡ state k v o w s y) ⊎ (l ∋ state k x o' w' b' z') → (x ≡ v) ⊎ Inside x v
      handed (inl c) = inl (cc)
      handed (inr m) = r.handed _ _ _ _ _ m

      going : {o' w' b' : ℕ} {z' : Value} → goes ≡ true → (state k v o' w' b' z' ≡ state k v o w s y) ⊎ (l ∋ state k v o' w' b' z') → Inside v w' → ⊥
      going {w' = w'} g (inl c) h = (f g).1 (subst (λ (x : ℕ). Inside v x) (let e : w' ≡ w = cc in e) h)
      going g (inr m) h = r.going (f g).0 _ _ _ _ m h

  -- and so its states and answers are justified
  pub state_justified : {o : ℕ} → i ≡ true → (v ≡ o) ⊎ Inside o v → State C l k v o s y
  state_justified c h = record { reached = h; has = r.has c; current = r.current }

  pub reply_justified : {d n m b : ℕ} {z : Value} {x : Ask} → a ≡ true → l ∋ ask d n m v x → s ≤ b → Answers C l k v b z x → Reply C l k d n v b z
  reply_justified {m = m} {x = x} c h g f = record {
    try = m;
    asked = x;
    to = h;
    answers = f;
    active = r.opened c;
    going = r.going c;
    current = current-raised r.current g;
  }

-- at the start: a member of the start view, and another relay
pub relay_starts : (C : Setting) (k : ℕ) → RelayFacts C [] k C.view 0 no_value true true
relay_starts C k = record {
  has = λ c. has_start refl refl refl;
  current = λ u c x h. absurd (unshown h);
  handed = λ x o w c z m. absurd (Memᴰ.not-nil m);
  opened = λ c. active-start refl;
  going = λ c o w b z m. absurd (Memᴰ.not-nil m);
}

pub relay_waits : (C : Setting) (k : ℕ) → RelayFacts C [] k 0 0 no_value false false
relay_waits C k = record {
  has = λ c. absurd (false≢true c);
  current = λ u c x h. absurd (unshown h);
  handed = λ x o w c z m. absurd (Memᴰ.not-nil m);
  opened = λ c. absurd (false≢true c);
  going = λ c. absurd (false≢true c);
}

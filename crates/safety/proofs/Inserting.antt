-- An operation goes into a list along which stamps never fall, above all of at most its stamp; what that does to the last write. Assumes nothing.
use mathlib.Core.Path.{◌≡◌, refl, sym, ap, ◌∙◌}
use mathlib.Core.Logic.{◌⊎◌, inl, inr}
use mathlib.Core.List.Memᴰ
use mathlib.Core.List.{[], ◌∷◌}
use Prim.Native.Nat.{ℕ, ◌≤◌, ◌<◌}
use native.Mathlib.Omega.{arith}
use native.Mathlib.Decide.{dec_le}
use native.Mathlib.Nat.{lt_of_not-le}
use Rattle.rules.specs.Stamps.{Value, no_value}
use Rattle.safety.proofs.Log.{Task, reading, writing, Op}
use Rattle.safety.proofs.Operations.{Writes}
use Rattle.safety.proofs.Order.{Ops, ◌contains◌, pick, latest, Descending, desc_nil, desc_cons}

-- ---- an operation goes in above all of at most its stamp

pub data Inserted (o : Op) : Ops → Ops → Type 0 where
  above : {r : Ops} → ((p : Op) → r contains p → p.stamp ≤ o.stamp) → Inserted o r (o ∷ r)
  below : {p : Op} {r r' : Ops} → o.stamp < p.stamp → Inserted o r r' → Inserted o (p ∷ r) (p ∷ r')

pub insertion : (o : Op) {r : Ops} → Descending r → (r' : Ops) × Inserted o r r'
insertion o desc_nil = (o ∷ [], above (λ p m. absurd (Memᴰ.not-nil m)))
insertion o (desc_cons {o = h} {r = r} f d) = go (insertion o d) (dec_le h.stamp o.stamp)
  where
    low : h.stamp ≤ o.stamp → (p : Op) → (p ≡ h) ⊎ (r contains p) → p.stamp ≤ o.stamp
    low l p (inl e) = omega (arith, ap (λ (z : Op). z.stamp) e)
    low l p (inr m) = omega (arith, f p m)

    go : (r' : Ops) × Inserted o r r' → Dec (h.stamp ≤ o.stamp) → (r' : Ops) × Inserted o (h ∷ r) r'
    go i (yes l) = (o ∷ h ∷ r, above (λ p m. low l p (Memᴰ.cases_cons m)))
    go i (no n) = (h ∷ i.0, below (lt_of_not-le n) i.1)

pub inserted_old : {o p : Op} {r r' : Ops} → Inserted o r r' → r contains p → r' contains p
inserted_old (above f) m = Memᴰ.tail m
inserted_old (below l i) (Memᴰ.head e) = Memᴰ.head e
inserted_old (below l i) (Memᴰ.tail m) = Memᴰ.tail (inserted_old i m)

pub inserted_new : {o : Op} {r r' : Ops} → Inserted o r r' → r' contains o
inserted_new (above f) = Memᴰ.head refl
inserted_new (below l i) = Memᴰ.tail (inserted_new i)

pub inserted_from : {o p : Op} {r r' : Ops} → Inserted o r r' → r' contains p → (p ≡ o) ⊎ (r contains p)
inserted_from (above f) m = Memᴰ.cases_cons m
inserted_from (below l i) (Memᴰ.head e) = inr (Memᴰ.head e)
inserted_from {o} {p} (below {p = q} {r = r} l i) (Memᴰ.tail m) = go (inserted_from i m)
  where
    go : (p ≡ o) ⊎ (r contains p) → (p ≡ o) ⊎ ((q ∷ r) contains p)
    go (inl e) = inl e
    go (inr n) = inr (Memᴰ.tail n)

pub inserted_descending : {o : Op} {r r' : Ops} → Inserted o r r' → Descending r → Descending r'
inserted_descending (above f) d = desc_cons f d
inserted_descending {o} (below {p = h} {r = r} l i) (desc_cons f d) = desc_cons (λ p m. go p (inserted_from i m)) (inserted_descending i d)
  where
    go : (p : Op) → (p ≡ o) ⊎ (r contains p) → p.stamp ≤ h.stamp
    go p (inl e) = omega (arith, ap (λ (z : Op). z.stamp) e)
    go p (inr m) = f p m

-- ---- the last write

-- it is not above them all
pub latest_low : (r : Ops) {s : ℕ} → ((p : Op) → r contains p → p.stamp ≤ s) → (latest r).0 ≤ s
unfolding latest
latest_low [] f = omega arith
latest_low (o ∷ r) {s} f = go o.task (latest_low r (λ p m. f p (Memᴰ.tail m)))
  where
    go : (a : Task) → (latest r).0 ≤ s → (pick a o.stamp (latest r)).0 ≤ s
    go reading h = h
    go (writing y) h = f o (Memᴰ.head refl)

-- what goes in below it does not change it
pub latest_same : {o : Op} {r r' : Ops} → Inserted o r r' → o.stamp < (latest r).0 → latest r' ≡ latest r
unfolding latest
latest_same (above {r = r} f) l = absurd (omega (arith, latest_low r f))
latest_same {o} (below {p = p} {r = r} {r' = r'} k i) l = go p.task l (latest_same i)
  where
    go : (a : Task) → o.stamp < (pick a p.stamp (latest r)).0 → (o.stamp < (latest r).0 → latest r' ≡ latest r)
        → pick a p.stamp (latest r') ≡ pick a p.stamp (latest r)
    go reading h ih = ih h
    go (writing y) h ih = refl

-- where there is none
pub latest-none : (r : Ops) → ((p : Op) → r contains p → Writes p → ⊥) → latest r ≡ (0, no_value)
unfolding latest
latest-none [] f = refl
latest-none (o ∷ r) f = go o.task refl (latest-none r (λ p m. f p (Memᴰ.tail m)))
  where
    go : (a : Task) → o.task ≡ a → latest r ≡ (0, no_value) → pick a o.stamp (latest r) ≡ (0, no_value)
    go reading e h = h
    go (writing y) e h = absurd (f o (Memᴰ.head refl) (y, e))

-- where a write of the highest stamp stands there, and no other
pub latest-is : {w : Op} {r : Ops} → Descending r → Writes w → r contains w
    → ((y : Value) → w.task ≡ writing y → w.value ≡ y) → ((p : Op) → r contains p → Writes p → p.stamp ≤ w.stamp)
    → ((p : Op) → r contains p → Writes p → p.stamp ≡ w.stamp → p ≡ w)
    → latest r ≡ (w.stamp, w.value)
unfolding latest
latest-is desc_nil v m t f g = absurd (Memᴰ.not-nil m)
latest-is {w} (desc_cons {o = o} {r = r} b d) v m t f g =
    go o.task refl (Memᴰ.cases_cons m) (λ n. latest-is d v n t (λ p k. f p (Memᴰ.tail k)) (λ p k. g p (Memᴰ.tail k)))
  where
    told : (y : Value) → o.task ≡ writing y → o ≡ w → ◌≡◌ {A = ℕ × Value} (o.stamp, y) (w.stamp, w.value)
    told y e c = let h = t y (ap (λ (z : Op). z.task) (sym c) ∙ e) in cc

    stamps : r contains w → Writes o → o.stamp ≡ w.stamp
    stamps n v = omega (arith, b w n, f o (Memᴰ.head refl) v)

    go : (a : Task) → o.task ≡ a → (w ≡ o) ⊎ (r contains w) → (r contains w → latest r ≡ (w.stamp, w.value))
        → pick a o.stamp (latest r) ≡ (w.stamp, w.value)
    go reading e (inl c) ih = let z : ◌≡◌ {A = ℕ} 0 1 = cc in absurd (omega arith)
    go reading e (inr n) ih = ih n
    go (writing y) e (inl c) ih = told y e (sym c)
    go (writing y) e (inr n) ih = told y e (g o (Memᴰ.head refl) (y, e) (stamps n (y, e)))

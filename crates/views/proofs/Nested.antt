-- Sequences kept for a view v: the fact `Above` behind the test `above_of`, that such a sequence is nested and short, its innermost and outermost view,
-- and its part beyond a view. Assumes nothing.
use mathlib.Core.Path.{◌≡◌, refl}
use mathlib.Core.Logic.{◌≢◌, ◌⊎◌, inl, inr, ⊎_elim}
use mathlib.Core.Bool.{Bool, true, ◌&&◌, and-eq-true_iff}
use mathlib.Core.List.{List, [], ◌∷◌}
use Prim.Native.Nat.{ℕ, ◌+◌, ◌≤◌, ◌<◌}
use native.Mathlib.Numerals.{sub-one}
use native.Mathlib.Omega.{arith}
use lib.Dec.{eqb, ltb, lit<}
use lib.Count.{ones, ones-le}
use lib.ListN.{length}
use borrow.Author.Tests.{eqb-true, ltb-true, lt-ltb}
use Rattle.views.specs.Choice.{those}
use Rattle.views.specs.View.{inside_of}
use Rattle.views.specs.Chain.{some, has_of, least_of, most_of, beyond_of, above_of}
use Rattle.views.proofs.Truth.{contrary, either_true, cases}
use Rattle.views.proofs.Sets.{Within, within_refl, within_trans, Inside, inside_grows, inside_trans, within_inside, inside_empty, inside_fact, inside_test}
use Rattle.views.proofs.Among.{has_first, has_rest}

-- each strictly includes the one before it, the first one v
pub data Above : ℕ → List ℕ → Type 0 where
  above_none : {v : ℕ} → Above v []
  above_more : {v w : ℕ} {l : List ℕ} → Inside v w → w < 65536 → Above w l → Above v (w ∷ l)

pub above_fact : (v : ℕ) (l : List ℕ) → above_of v l ≡ true → Above v l
unfolding above_of
above_fact v [] e = above_none
above_fact v (w ∷ l) e =
    let h = (and-eq-true_iff (inside_of v w && ltb w 65536) (above_of w l)).0 e in
    let k = (and-eq-true_iff (inside_of v w) (ltb w 65536)).0 h.0 in
    above_more (inside_fact v w k.0) (ltb-true w 65536 k.1) (above_fact w l h.1)

pub above_test : {v : ℕ} {l : List ℕ} → Above v l → above_of v l ≡ true
unfolding above_of
above_test above_none = refl
above_test (above_more {w = w} i h a) = rw (inside_test i, lt-ltb w 65536 h, above_test a)

pub above_first : {v w : ℕ} {l : List ℕ} → Above v (w ∷ l) → Inside v w
above_first (above_more i h a) = i

-- ---- it is short: each view has an update more than the one before

pub above_ones : {v : ℕ} {l : List ℕ} → v < 65536 → Above v l → ones v + length l ≤ 16
above_ones {v} h above_none = omega (arith, ones-le 16 v h)
above_ones h (above_more i k a) = omega (arith, inside_grows i, above_ones k a)

pub above_fits : {v : ℕ} {l : List ℕ} → v < 65536 → v ≢ 0 → Above v l → length l ≤ 15
above_fits h n a = omega (arith, above_ones h a, inside_grows (inside_empty n))

-- ---- its views

pub above_lower : {v w : ℕ} {l : List ℕ} → Within v w → Above w l → Above v l
above_lower i above_none = above_none
above_lower i (above_more j h a) = above_more (within_inside i j) h a

pub above_has : {v : ℕ} {l : List ℕ} → Above v l → (x : ℕ) → has_of l x ≡ true → Inside v x
unfolding some
above_has above_none x e = absurd (contrary e refl)
above_has (above_more {w = w} {l = l} i h a) x e =
    ⊎_elim (λ p. rw (eqb-true x w p) i) (λ p. inside_trans i (above_has a x p)) (either_true (eqb x w) (has_of l x) e)

pub above_small : {v : ℕ} {l : List ℕ} → Above v l → (x : ℕ) → has_of l x ≡ true → x < 65536
unfolding some
above_small above_none x e = absurd (contrary e refl)
above_small (above_more {w = w} {l = l} i h a) x e =
    ⊎_elim (λ p. rw (eqb-true x w p) h) (λ p. above_small a x p) (either_true (eqb x w) (has_of l x) e)

pub above_nested : {v : ℕ} {l : List ℕ} → Above v l → (x y : ℕ) → has_of l x ≡ true → has_of l y ≡ true → Within x y ⊎ Within y x
unfolding some
above_nested above_none x y e f = absurd (contrary e refl)
above_nested (above_more {w = w} {l = l} i h a) x y e f =
    ⊎_elim (λ p. inl (rw (eqb-true x w p) (from_first y f)))
    (λ p. ⊎_elim (λ q. inr (rw (eqb-true y w q) (above_has a x p).within)) (λ q. above_nested a x y p q) (either_true (eqb y w) (has_of l y) f))
    (either_true (eqb x w) (has_of l x) e)
  where
    from_first : (z : ℕ) → has_of (w ∷ l) z ≡ true → Within w z
    from_first z g = ⊎_elim (λ p. rw (eqb-true z w p) (within_refl w)) (λ p. (above_has a z p).within) (either_true (eqb z w) (has_of l z) g)

-- ---- the innermost and the outermost

pub least_has : (l : List ℕ) → 0 < length l → has_of l (least_of l) ≡ true
least_has [] h = absurd (omega arith)
least_has (w ∷ l) h = has_first w l

pub least_within : {v : ℕ} {l : List ℕ} → Above v l → (x : ℕ) → has_of l x ≡ true → Within (least_of l) x
unfolding some
least_within above_none x e = absurd (contrary e refl)
least_within (above_more {w = w} {l = l} i h a) x e =
    ⊎_elim (λ p. rw (eqb-true x w p) (within_refl w)) (λ p. (above_has a x p).within) (either_true (eqb x w) (has_of l x) e)

most_cons : (x y : ℕ) (l : List ℕ) → most_of (x ∷ y ∷ l) ≡ most_of (y ∷ l)
most_cons x y l = simp sub-one

pub most_has : (l : List ℕ) → 0 < length l → has_of l (most_of l) ≡ true
most_has [] h = absurd (omega arith)
most_has (w ∷ []) h = has_first w []
most_has (w ∷ x ∷ l) h = rw (most_cons w x l) (has_rest (most_of (x ∷ l)) w (x ∷ l) (most_has (x ∷ l) (omega arith)))

most_tail : (x w : ℕ) (l : List ℕ) → has_of l x ≡ true → most_of (w ∷ l) ≡ most_of l
unfolding some
most_tail x w [] e = absurd (contrary e refl)
most_tail x w (y ∷ l) e = most_cons w y l

most-first : {w : ℕ} {l : List ℕ} → Above w l → Within w (most_of (w ∷ l))
most-first {w} above_none = within_refl w
most-first {w} (above_more {w = x} {l = l} i h a) = rw (most_cons w x l) (within_trans i.within (most-first a))

pub most-within : {v : ℕ} {l : List ℕ} → Above v l → (x : ℕ) → has_of l x ≡ true → Within x (most_of l)
unfolding some
most-within above_none x e = absurd (contrary e refl)
most-within (above_more {w = w} {l = l} i h a) x e =
    ⊎_elim (λ p. rw (eqb-true x w p) (most-first a)) (λ p. rw (most_tail x w l p) (most-within a x p)) (either_true (eqb x w) (has_of l x) e)

pub most_small : {v : ℕ} {l : List ℕ} → Above v l → most_of l < 65536
most_small above_none = lit< tt
most_small (above_more {w = w} {l = l} i h a) =
    above_small (above_more i h a) (most_of (w ∷ l)) (most_has (w ∷ l) (omega arith))

-- ---- the part beyond w

pub those_above : {v : ℕ} {l : List ℕ} (f : ℕ → Bool) → Above v l → Above v (those f l)
unfolding those
those_above f above_none = above_none
those_above {v} f (above_more {w = w} i h a) =
    cases (Above v) (f w) (λ _. above_more i h (those_above f a)) (λ _. above_lower i.within (those_above f a))

pub beyond_above : {v : ℕ} {q : List ℕ} (w : ℕ) → Above v q → Above w (beyond_of w q)
unfolding those
beyond_above w above_none = above_none
beyond_above w (above_more {w = x} i h a) =
    cases (Above w) (inside_of w x) (λ e. above_more (inside_fact w x e) h (those_above (inside_of w) a)) (λ _. beyond_above w a)

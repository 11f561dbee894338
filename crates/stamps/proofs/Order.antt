-- What the comparison of stamps means: each of its three answers says exactly one thing of the two, and the order is total and strict.
-- Assumes nothing.
use Prim.Native.Nat.{ℕ, ◌<◌}
use mathlib.Core.Path.{◌≡◌, refl, sym, ap, ◌∙◌}
use mathlib.Core.Bool.{Bool, true, false, cond, false≢true}
use mathlib.Core.Logic.{◌⊎◌, inl, inr, ⊎_elim}
use native.Mathlib.Omega.{arith}
use lib.IntN.{ℤ, pos, negsuc, neg_ℤ}
use lib.Dec.{ltb, eqb}
use mir.Syntax.{w8}
use mir.Val.{of_z}
use borrow.Author.Tests.{ltb-true, ltb-false, eqb-true, ne_eqb}
use Rattle.stamps.specs.declared.Stamp.{Stamp}
use Rattle.stamps.specs.declared.Pair.{Pair}
use Rattle.stamps.specs.Stamp.{sign_of, compared_of, equals, greater_of, same_of, greatest_of}

-- "ordered by count, then desk": a is above b
pub data Above (a b : Stamp) : Type 0 where
  by_count : b.count < a.count → Above a b
  by_desk : b.count ≡ a.count → b.desk < a.desk → Above a b

-- the three answers, each with what it says
pub data Ordered (a b : Stamp) : ℤ → Type 0 where
  below : Above b a → Ordered a b (negsuc 0)
  equal : a ≡ b → Ordered a b (pos 0)
  above : Above a b → Ordered a b (pos 1)

data Signed (a b : ℕ) (otherwise : ℤ) : ℤ → Type 0 where
  less : a < b → Signed a b otherwise (negsuc 0)
  more : b < a → Signed a b otherwise (pos 1)
  tied : a ≡ b → Signed a b otherwise otherwise

signed : (a b : ℕ) (otherwise : ℤ) → Signed a b otherwise (sign_of a b otherwise)
unfolding sign_of
signed a b otherwise = go (ltb a b) (ltb b a) refl refl
  where
    go : (p q : Bool) → ltb a b ≡ p → ltb b a ≡ q → Signed a b otherwise (cond p (negsuc 0) (cond q (pos 1) otherwise))
    go true q e f = less (ltb-true a b e)
    go false true e f = more (ltb-true b a f)
    go false false e f = tied (omega (arith, ltb-false a b e, ltb-false b a f))

pub ordered : (a b : Stamp) → Ordered a b (compared_of a b)
unfolding compared_of
ordered a b = by_counts (signed a.count b.count (sign_of a.desk b.desk (pos 0)))
  where
    by_desks : {z : ℤ} → a.count ≡ b.count → Signed a.desk b.desk (pos 0) z → Ordered a b z
    by_desks e (less h) = below (by_desk e h)
    by_desks e (more h) = above (by_desk (sym e) h)
    by_desks e (tied d) = equal (λ i. record { count = e i; desk = d i })

    by_counts : {z : ℤ} → Signed a.count b.count (sign_of a.desk b.desk (pos 0)) z → Ordered a b z
    by_counts (less h) = below (by_count h)
    by_counts (more h) = above (by_count h)
    by_counts (tied e) = by_desks e (signed a.desk b.desk (pos 0))

-- ---- a strict order

pub above_irreflexive : {a : Stamp} → Above a a → ⊥
above_irreflexive (by_count h) = omega arith
above_irreflexive (by_desk e h) = omega arith

pub above_transitive : {a b c : Stamp} → Above a b → Above b c → Above a c
above_transitive (by_count h) (by_count k) = by_count (omega arith)
above_transitive (by_count h) (by_desk e k) = by_count (omega arith)
above_transitive (by_desk d h) (by_count k) = by_count (omega arith)
above_transitive (by_desk d h) (by_desk e k) = by_desk (e ∙ d) (omega arith)

pub above_asymmetric : {a b : Stamp} → Above a b → Above b a → ⊥
above_asymmetric h k = above_irreflexive (above_transitive h k)

above_differs : {a b : Stamp} → Above a b → a ≡ b → ⊥
above_differs h e = above_irreflexive (rw e at h)

-- ---- the answers' exact meaning: `compared_of a b ≡ z` exactly when `Ordered a b z`

decided : {a b : Stamp} {y z : ℤ} → Ordered a b y → Ordered a b z → y ≡ z
decided (below h) (below k) = refl
decided (below h) (equal e) = absurd (above_differs h (sym e))
decided (below h) (above k) = absurd (above_asymmetric h k)
decided (equal e) (below k) = absurd (above_differs k (sym e))
decided (equal e) (equal d) = refl
decided (equal e) (above k) = absurd (above_differs k e)
decided (above h) (below k) = absurd (above_asymmetric h k)
decided (above h) (equal e) = absurd (above_differs h e)
decided (above h) (above k) = refl

turned : {a b : Stamp} {z : ℤ} → Ordered a b z → Ordered b a (neg_ℤ z)
turned (below h) = above h
turned (equal e) = equal (sym e)
turned (above h) = below h

pub answers : {a b : Stamp} {z : ℤ} → Ordered a b z → compared_of a b ≡ z
answers {a} {b} h = decided (ordered a b) h

pub says : (a b : Stamp) {z : ℤ} → compared_of a b ≡ z → Ordered a b z
says a b e = rw e at (ordered a b)

pub one_above : (a b : Stamp) → compared_of a b ≡ pos 1 → Above a b
one_above a b e = go (says a b e)
  where
    go : Ordered a b (pos 1) → Above a b
    go (above h) = h

pub above_one : {a b : Stamp} → Above a b → compared_of a b ≡ pos 1
above_one h = answers (above h)

pub zero_equal : (a b : Stamp) → compared_of a b ≡ pos 0 → a ≡ b
zero_equal a b e = go (says a b e)
  where
    go : Ordered a b (pos 0) → a ≡ b
    go (equal h) = h

pub equal_zero : {a b : Stamp} → a ≡ b → compared_of a b ≡ pos 0
equal_zero e = answers (equal e)

-- exchanged stamps have the negative answer
pub compared_turned : (a b : Stamp) → compared_of b a ≡ neg_ℤ (compared_of a b)
compared_turned a b = answers (turned (ordered a b))

pub minus-below : (a b : Stamp) → compared_of a b ≡ negsuc 0 → Above b a
minus-below a b e = one_above b a (compared_turned a b ∙ ap neg_ℤ e)

pub below-minus : {a b : Stamp} → Above b a → compared_of a b ≡ negsuc 0
below-minus h = answers (below h)

-- ---- at most

pub data AtMost (a b : Stamp) : Type 0 where
  level : a ≡ b → AtMost a b
  under : Above b a → AtMost a b

pub at_most_self : {a : Stamp} → AtMost a a
at_most_self = level refl

pub at_most_transitive : {a b c : Stamp} → AtMost a b → AtMost b c → AtMost a c
at_most_transitive (level e) q = rw e q
at_most_transitive (under h) (level e) = under (rw e at h)
at_most_transitive (under h) (under k) = under (above_transitive k h)

pub at_most_both : {a b : Stamp} → AtMost a b → AtMost b a → a ≡ b
at_most_both (level e) q = e
at_most_both (under h) (level e) = sym e
at_most_both (under h) (under k) = absurd (above_asymmetric h k)

-- the order is total
pub above_or_at_most : (a b : Stamp) → Above a b ⊎ AtMost a b
above_or_at_most a b = go (ordered a b)
  where
    go : {z : ℤ} → Ordered a b z → Above a b ⊎ AtMost a b
    go (below h) = inr (under h)
    go (equal e) = inr (level e)
    go (above h) = inl h

-- ---- the two tests

equals_true : (z : ℤ) (n : ℕ) → equals z n ≡ true → z ≡ pos n
equals_true (pos m) n e = ap pos (eqb-true m n e)
equals_true (negsuc m) n e = absurd (false≢true e)

pub greater_above : (a b : Stamp) → greater_of a b ≡ true → Above a b
unfolding greater_of
greater_above a b e = one_above a b (equals_true (compared_of a b) 1 e)

pub above_greater : {a b : Stamp} → Above a b → greater_of a b ≡ true
unfolding greater_of
above_greater h = rw (above_one h)

pub at_most_not_greater : {a b : Stamp} → AtMost a b → greater_of a b ≡ false
unfolding greater_of
at_most_not_greater (level e) = rw (equal_zero e)
at_most_not_greater (under h) = rw (below-minus h)

pub same_equal : (a b : Stamp) → same_of a b ≡ true → a ≡ b
unfolding same_of
same_equal a b e = zero_equal a b (equals_true (compared_of a b) 0 e)

pub equal_same : {a b : Stamp} → a ≡ b → same_of a b ≡ true
unfolding same_of
equal_same e = rw (equal_zero e)

-- ---- the greatest

module _ (held new : Pair) where
  pub greatest_is : (greatest_of held new ≡ held) ⊎ (greatest_of held new ≡ new)
  unfolding greatest_of
  greatest_is = go (greater_of new.stamp held.stamp)
    where
      go : (b : Bool) → (cond b new held ≡ held) ⊎ (cond b new held ≡ new)
      go true = inr refl
      go false = inl refl

  -- "of equal stamps the pair already held stays"
  pub greatest_stays : AtMost new.stamp held.stamp → greatest_of held new ≡ held
  unfolding greatest_of
  greatest_stays h = rw (at_most_not_greater h)

  pub greatest_takes : Above new.stamp held.stamp → greatest_of held new ≡ new
  unfolding greatest_of
  greatest_takes h = rw (above_greater h)

  pub greatest_held : AtMost held.stamp (greatest_of held new).stamp
  greatest_held =
      ⊎_elim (λ h. rw (greatest_takes h) (under h)) (λ h. rw (greatest_stays h) at_most_self) (above_or_at_most new.stamp held.stamp)

  pub greatest_new : AtMost new.stamp (greatest_of held new).stamp
  greatest_new =
      ⊎_elim (λ h. rw (greatest_takes h) at_most_self) (λ h. rw (greatest_stays h) h) (above_or_at_most new.stamp held.stamp)

-- ---- the code's tests of an answer, which go by its eight bits

bits_equal : {a b : Stamp} {z : ℤ} → Ordered a b z → (n : ℕ) → n < 255 → eqb (of_z w8 z) n ≡ equals z n
bits_equal (below h) n k = ne_eqb 255 n (λ e. omega arith)
bits_equal (equal e) n k = refl
bits_equal (above h) n k = refl

module _ {z : ℤ} (a b : Stamp) (e : z ≡ compared_of a b) where
  pub greater_bits : eqb (of_z w8 z) 1 ≡ greater_of a b
  unfolding greater_of
  greater_bits = rw e (bits_equal (ordered a b) 1 (omega arith))

  pub same_bits : eqb (of_z w8 z) 0 ≡ same_of a b
  unfolding same_of
  same_bits = rw e (bits_equal (ordered a b) 0 (omega arith))

-- Sequences: finite sets of views, any two of them nested. A view is a set (views/proofs/Sets), and a sequence a list of views;
-- only which views are in the list matters, not their order nor how often one stands there.
-- Assumes nothing.
use mathlib.Core.Path.{◌≡◌, subst}
use mathlib.Core.Logic.{◌≢◌, ◌⊎◌, inl, inr}
use mathlib.Core.List.{List, Memᴰ}
use Prim.Native.Nat.{ℕ}
use Rattle.views.proofs.Sets.{Inside, inside_trans}

infix 20 ◌∈◌ ◌⊆◌
abbrev pub ◌∈◌ : ℕ → List ℕ → Type 0
v ∈ q = Memᴰ v q

abbrev pub ◌⊆◌ : List ℕ → List ℕ → Type 0
p ⊆ q = (v : ℕ) → v ∈ p → v ∈ q

-- two views, one of which includes the other
pub data Comparable (u v : ℕ) : Type 0 where
  same : u ≡ v → Comparable u v
  inner : Inside u v → Comparable u v
  outer : Inside v u → Comparable u v

pub record Sequence (q : List ℕ) : Type 0 where
  pub first : ℕ
  pub has : first ∈ q
  pub nested : (u v : ℕ) → u ∈ q → v ∈ q → Comparable u v

-- every view of q strictly includes v
abbrev pub Above : ℕ → List ℕ → Type 0
Above v q = (w : ℕ) → w ∈ q → Inside v w

-- v is the innermost view of q
pub record Least (v : ℕ) (q : List ℕ) : Type 0 where
  pub has : v ∈ q
  pub least : (w : ℕ) → w ∈ q → (v ≡ w) ⊎ Inside v w

-- q is {v}
pub record Single (v : ℕ) (q : List ℕ) : Type 0 where
  pub has : v ∈ q
  pub only : (w : ℕ) → w ∈ q → v ≡ w

-- p is q without v
pub record Without (v : ℕ) (q p : List ℕ) : Type 0 where
  pub from : p ⊆ q
  pub gone : (w : ℕ) → w ∈ p → v ≢ w
  pub kept : (w : ℕ) → w ∈ q → v ≢ w → w ∈ p

-- of two sequences one contains the other; and so for any two of a collection
abbrev pub Nested : List ℕ → List ℕ → Type 0
Nested p q = (p ⊆ q) ⊎ (q ⊆ p)

abbrev pub Chain : (List ℕ → Type 0) → Type 0
Chain S = (p q : List ℕ) → S p → S q → Nested p q

-- ---- laws

pub single_least : {v : ℕ} {q : List ℕ} → Single v q → Least v q
single_least s = record { has = s.has; least = λ w m. inl (s.only w m) }

-- what is inside the least view is inside all of them
pub above_least : {u v : ℕ} {q : List ℕ} → Inside u v → Least v q → Above u q
above_least {u} {v} i l w m = go (l.least w m)
  where
    go : (v ≡ w) ⊎ Inside v w → Inside u w
    go (inl e) = subst (λ (x : ℕ). Inside u x) e i
    go (inr j) = inside_trans i j

pub above_inside : {u v : ℕ} {q : List ℕ} → Inside u v → Above v q → Above u q
above_inside i h w m = inside_trans i (h w m)

-- v is not in q where all of q is above v
pub above_not : {v w : ℕ} {q : List ℕ} → Above v q → w ∈ q → v ≢ w
above_not h m e = (h _ m).other e

pub without_nested : {v : ℕ} {p q p' q' : List ℕ} → Without v q p → Without v q' p' → Nested q q' → Nested p p'
without_nested x y (inl h) = inl (λ w m. y.kept w (h w (x.from w m)) (x.gone w m))
without_nested x y (inr h) = inr (λ w m. x.kept w (h w (y.from w m)) (y.gone w m))

-- What is gathered from a chain of sequences by unions: for the fact `agreed` of `Facts.antt`.
-- Assumes nothing.
use mathlib.Core.Logic.{◌⊎◌, inl, inr, ⊎_elim}
use mathlib.Core.List.{List}
use Prim.Native.Nat.{ℕ}
use Rattle.safety.proofs.Sequences.{◌∈◌, ◌⊆◌, Nested, Chain}

-- r is the union of p and q
pub record Union (p q r : List ℕ) : Type 0 where
  pub left : p ⊆ r
  pub right : q ⊆ r
  pub from : (v : ℕ) → v ∈ r → (v ∈ p) ⊎ (v ∈ q)

-- what is gathered from the sequences of S: one of them, or the union of two that are gathered
pub data Gathered (S : List ℕ → Type 0) : List ℕ → Type 0 where
  given : {r : List ℕ} → S r → Gathered S r
  both : {p q r : List ℕ} → Gathered S p → Gathered S q → Union p q r → Gathered S r

-- r is one of S, up to order
pub record Among (S : List ℕ → Type 0) (r : List ℕ) : Type 0 where
  pub it : List ℕ
  pub is : S it
  pub sub : it ⊆ r
  pub sup : r ⊆ it

-- from a chain nothing else is gathered
pub gathered_chain : {S : List ℕ → Type 0} {r : List ℕ} → Chain S → Gathered S r → Among S r
gathered_chain c (given {r = r} s) = record { it = r; is = s; sub = λ v m. m; sup = λ v m. m }
gathered_chain {S} c (both {p = p} {q = q} {r = r} a b u) = go (gathered_chain c a) (gathered_chain c b)
  where
    inner : (x : Among S p) (y : Among S q) → Nested x.it y.it → Among S r
    inner x y (inl h) = record {
      it = y.it;
      is = y.is;
      sub = λ v m. u.right v (y.sub v m);
      sup = λ v m. ⊎_elim (λ (k : v ∈ p). h v (x.sup v k)) (λ (k : v ∈ q). y.sup v k) (u.from v m);
    }
    inner x y (inr h) = record {
      it = x.it;
      is = x.is;
      sub = λ v m. u.left v (x.sub v m);
      sup = λ v m. ⊎_elim (λ (k : v ∈ p). x.sup v k) (λ (k : v ∈ q). h v (y.sup v k)) (u.from v m);
    }

    go : Among S p → Among S q → Among S r
    go x y = inner x y (c x.it y.it x.is y.is)

pub gathered-nested : {S : List ℕ → Type 0} {p q : List ℕ} → Chain S → Gathered S p → Gathered S q → Nested p q
gathered-nested {S} {p} {q} c g h = go (gathered_chain c g) (gathered_chain c h)
  where
    pick : (x : Among S p) (y : Among S q) → Nested x.it y.it → Nested p q
    pick x y (inl k) = inl (λ v m. y.sub v (k v (x.sup v m)))
    pick x y (inr k) = inr (λ v m. x.sub v (k v (y.sup v m)))

    go : Among S p → Among S q → Nested p q
    go x y = pick x y (c x.it y.it x.is y.is)

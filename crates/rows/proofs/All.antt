-- Laws of `all`, as a loop that stops at the first failure asks for them.
-- Assumes nothing.
use mathlib.Core.Path.{◌≡◌, refl, sym}
use mathlib.Core.Bool.{Bool, true, false, ◌&&◌, and-false, and-eq-true_iff}
use Prim.Native.Nat.{ℕ, zero, suc, ◌+◌, ◌≤◌, ◌<◌}
use native.Mathlib.Numerals.{add-one}
use native.Mathlib.Decide.{ℕ_discrete}
use native.Mathlib.Omega.{arith}
use lib.Dec.{leb}
use borrow.Author.Tests.{leb-true, leb-false}
use Rattle.rows.specs.Tests.{all}

pub all_none : (f : ℕ → Bool) → all 0 f ≡ true
unfolding all
all_none f = refl

pub all_more : (n : ℕ) (f : ℕ → Bool) → all n f ≡ true → f n ≡ true → all (n + 1) f ≡ true
unfolding all
all_more n f e h = rw (add-one, all) (rw (e, h))

pub all_fails : (n i : ℕ) (f : ℕ → Bool) → i < n → f i ≡ false → all n f ≡ false
unfolding all
all_fails zero i f h e = absurd (omega arith)
all_fails (suc n) i f h e = go (ℕ_discrete i n) (λ q. all_fails n i f (omega arith) e)
  where
    go : Dec (i ≡ n) → ((i ≡ n → ⊥) → all n f ≡ false) → (all n f && f n) ≡ false
    go (yes p) _ = rw (← p, e) (and-false (all i f))
    go (no q) rec = rw (rec q)

pub all_at : (n i : ℕ) (f : ℕ → Bool) → all n f ≡ true → i < n → f i ≡ true
unfolding all
all_at zero i f e h = absurd (omega arith)
all_at (suc n) i f e h = go (ℕ_discrete i n) (λ q. all_at n i f ((and-eq-true_iff (all n f) (f n)).0 e).0 (omega arith))
  where
    go : Dec (i ≡ n) → ((i ≡ n → ⊥) → f i ≡ true) → f i ≡ true
    go (yes p) _ = rw p ((and-eq-true_iff (all n f) (f n)).0 e).1
    go (no q) rec = rec q

pub all_every : (n : ℕ) (f : ℕ → Bool) → ((k : ℕ) → k < n → f k ≡ true) → all n f ≡ true
unfolding all
all_every zero f h = refl
all_every (suc n) f h = rw (all_every n f (λ k p. h k (omega arith)), h n (omega arith))

-- a loop that tests each number below n, and stops at the first that fails
pub record Passed (n : ℕ) (f : ℕ → Bool) (i : ℕ) : Type 0 where
  pub within : i ≤ n
  pub so_far : all i f ≡ true

pub passed_none : {n : ℕ} {f : ℕ → Bool} → Passed n f 0
passed_none {n} {f} = record { within = omega arith; so_far = all_none f }

pub passed_more : {n : ℕ} {f : ℕ → Bool} {i : ℕ} → Passed n f i → i < n → f i ≡ true → Passed n f (i + 1)
passed_more {n} {f} {i} p h e = record { within = omega arith; so_far = all_more i f p.so_far e }

pub passed_all : {n : ℕ} {f : ℕ → Bool} {i : ℕ} → Passed n f i → n ≤ i → true ≡ all n f
passed_all {n} {f} {i} p h = let e : n ≡ i = omega (arith, p.within) in rw e (sym p.so_far)

-- the rest passes untested
pub passed_rest : {n : ℕ} {f : ℕ → Bool} {i : ℕ} → Passed n f i → ((k : ℕ) → i ≤ k → f k ≡ true) → true ≡ all n f
passed_rest {n} {f} {i} p h = sym (all_every n f (λ k q. go k (leb i k) refl))
  where
    go : (k : ℕ) (t : Bool) → leb i k ≡ t → f k ≡ true
    go k true e = h k (leb-true i k e)
    go k false e = all_at i k f p.so_far (leb-false i k e)

pub passed_fails : {n : ℕ} {f : ℕ → Bool} {i : ℕ} → Passed n f i → i < n → f i ≡ false → false ≡ all n f
passed_fails {n} {f} {i} p h e = sym (all_fails n i f h e)

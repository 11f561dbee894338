-- What the log must say of a relay's generator: each kind of entry keeps it and is justified by it. Assumes nothing.
use mathlib.Core.Path.{◌≡◌, refl, sym, subst}
use mathlib.Core.Logic.{◌⊎◌, inl, inr}
use mathlib.Core.List.Memᴰ
use mathlib.Core.List.{List, [], ◌∷◌}
use Prim.Native.Nat.{ℕ}
use native.Mathlib.Omega.{arith}
use Rattle.safety.proofs.Sequences.{◌⊆◌}
use Rattle.safety.proofs.Log.{Entry, Log, ◌∋◌, own, conv, Conv}
use Rattle.safety.proofs.Entries.{older, past-kind}

-- ---- a generator: k's own and converged sequence for v

pub record GeneratorFacts (l : Log) (k v : ℕ) (p c : List ℕ) : Type 0 where
  pub own_is : (p ≡ []) ⊎ (l ∋ own k v p)
  pub conv_in : (q : List ℕ) → l ∋ conv k v q → q ⊆ c

module _ {l : Log} {k v : ℕ} {p c : List ℕ} (g : GeneratorFacts l k v p c) where
  pub generator_other : {e : Entry} → ((q : List ℕ) → conv k v q ≡ e → ⊥) → GeneratorFacts (e ∷ l) k v p c
  generator_other {e} n = record { own_is = go g.own_is; conv_in = λ q m. g.conv_in q (older (n q) m) }
    where
      go : (p ≡ []) ⊎ (l ∋ own k v p) → (p ≡ []) ⊎ ((e ∷ l) ∋ own k v p)
      go (inl e) = inl e
      go (inr m) = inr (Memᴰ.tail m)

  pub generator_own_lem : {q : List ℕ} → GeneratorFacts (own k v q ∷ l) k v q c
  generator_own_lem {q} = record { own_is = inr (Memᴰ.head refl); conv_in = λ r m. g.conv_in r (past-kind (omega arith) m) }

  -- converged becomes own, which contains it
  module _ (n : p ≡ [] → ⊥) (h : c ⊆ p) where
    pub conv_justified : Conv l k v p
    conv_justified = record { own_now = go g.own_is; grown = λ q m w i. h w (g.conv_in q m w i) }
      where
        go : (p ≡ []) ⊎ (l ∋ own k v p) → l ∋ own k v p
        go (inl e) = absurd (n e)
        go (inr m) = m

    pub generator_conv : GeneratorFacts (conv k v p ∷ l) k v p p
    generator_conv = record { own_is = inr (Memᴰ.tail conv_justified.own_now); conv_in = λ q m. go q (Memᴰ.cases_cons m) }
      where
        go : (q : List ℕ) → (conv k v q ≡ conv k v p) ⊎ (l ∋ conv k v q) → q ⊆ p
        go q (inl e) = let d : p ≡ q = cc in subst (λ (r : List ℕ). q ⊆ r) (sym d) (λ w i. i)
        go q (inr m) = conv_justified.grown q m

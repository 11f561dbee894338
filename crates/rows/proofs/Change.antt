-- A list of which one element changes, and the table of its rows: that one row is written. Assumes nothing.
use mathlib.Core.Path.{◌≡◌, refl, sym, ap, ◌∙◌}
use mathlib.Core.Logic.{◌≢◌}
use mathlib.Core.List.{List, [], ◌∷◌, ◌++◌}
use Prim.Native.Nat.{ℕ, zero, suc, ◌+◌, ◌*◌, ◌≤◌, ◌<◌}
use lib.ListN.{length, get_or, set}
use lib.Seq.{get_or-set_same, get_or-set_other}
use Rattle.rows.specs.Bytes.{splice, table}
use Rattle.rows.proofs.Laws.{run-write}

-- ys is xs, but for y at index i; past their ends both have d
pub record Changed {A : Type 0} (d : A) (xs : List A) (i : ℕ) (y : A) (ys : List A) : Type 0 where
  pub here : get_or ys i d ≡ y
  pub others : (k : ℕ) → k ≢ i → get_or ys k d ≡ get_or xs k d

module _ {A : Type 0} {d : A} where
  changed_none : {y : A} → Changed d [] 0 y (y ∷ [])
  changed_none {y} = record { here = refl; others = go }
    where
      go : (k : ℕ) → k ≢ 0 → get_or (y ∷ []) k d ≡ d
      go zero q = absurd (q refl)
      go (suc k) q = refl

  pub changed_first : {x y : A} {xs : List A} → Changed d (x ∷ xs) 0 y (y ∷ xs)
  changed_first {x} {y} {xs} = record { here = refl; others = go }
    where
      go : (k : ℕ) → k ≢ 0 → get_or (y ∷ xs) k d ≡ get_or (x ∷ xs) k d
      go zero q = absurd (q refl)
      go (suc k) q = refl

  pub changed_more : {x y : A} {xs ys : List A} {i : ℕ} → Changed d xs i y ys → Changed d (x ∷ xs) (suc i) y (x ∷ ys)
  changed_more {x} {y} {xs} {ys} {i} c = record { here = c.here; others = go }
    where
      go : (k : ℕ) → k ≢ suc i → get_or (x ∷ ys) k d ≡ get_or (x ∷ xs) k d
      go zero q = refl
      go (suc k) q = c.others k (λ e. q (ap suc e))

  pub changed_set : (xs : List A) (i : ℕ) (y : A) → i < length xs → Changed d xs i y (set xs i y)
  changed_set xs i y h = record { here = get_or-set_same xs i y d h; others = λ k q. get_or-set_other xs i k y d q }

  pub changed_add : (xs : List A) (y : A) → Changed d xs (length xs) y (xs ++ (y ∷ []))
  changed_add [] y = changed_none
  changed_add (x ∷ xs) y = changed_more (changed_add xs y)

-- ---- the table: v written at o inside row i, which makes it y's row

module _ {A : Type 0} (enc : A → List ℕ) (d : A) (w n : ℕ) (wide : (x : A) → length (enc x) ≡ w) where
  pub table-write : (xs ys : List A) (i o : ℕ) (v : List ℕ) (y : A) → Changed d xs i y ys → i < n → o + length v ≤ w
      → splice (enc (get_or xs i d)) o v ≡ enc y → splice (table enc d n xs) (i * w + o) v ≡ table enc d n ys
  table-write xs ys i o v y c hi ho e =
      run-write w n i o (λ k. enc (get_or xs k d)) (λ k. enc (get_or ys k d)) v (λ k. wide (get_or xs k d)) hi ho
      (ap enc c.here ∙ sym e) (λ k p q. ap enc (c.others k q))

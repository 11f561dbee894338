-- Laws of a table: n rows of one width w, encoded by any enc.
-- Assumes nothing.
use mathlib.Core.Path.{◌≡◌, refl, sym, ◌∙◌}
use mathlib.Core.List.{List, [], ◌∷◌, append-nil}
use Prim.Native.Nat.{ℕ, zero, suc, ◌+◌, ◌*◌, ◌≤◌, ◌<◌}
use native.Mathlib.Numerals.{add-one}
use native.Mathlib.Omega.{arith}
use lib.ListN.{length, replicate, get_or, drop_of_length-le}
use lib.Seq.{ext_get_or}
use Rattle.std.proofs.lemmas.List.{replicate_more}
use Rattle.rows.specs.Bytes.{splice, run, table, tab, zeros}
use Rattle.rows.proofs.Laws.{length_run, Holds, holds_self, holds_same, holds-run, tab_ext, tab_get_d}

pub splice-whole : (b v : List ℕ) → length v ≡ length b → splice b 0 v ≡ v
unfolding splice
splice-whole b v e =
    let h : length b ≤ 0 + length v = omega arith in
    rw (drop_of_length-le b h) (append-nil v)

pub length-zeros : (n : ℕ) → length (zeros n) ≡ n
unfolding zeros
length-zeros n = let e = length_run 1 n (λ k. 0 ∷ []) (λ k. refl) in omega arith

pub zeros-replicate : (n : ℕ) → replicate n 0 ≡ zeros n
unfolding zeros run
zeros-replicate zero = refl
zeros-replicate (suc n) = rw (← zeros-replicate n, replicate_more {X = ℕ} n 0, add-one n)

module _ {A : Type 0} (enc : A → List ℕ) (d : A) (w n : ℕ) (wide : (x : A) → length (enc x) ≡ w) where
  pub table-length : (xs : List A) → length (table enc d n xs) ≡ n * w
  table-length xs = length_run w n (λ k. enc (get_or xs k d)) (λ k. wide (get_or xs k d))

  pub table-holds : (l : List ℕ) (o i : ℕ) (xs : List A) → i < n → Holds l o (table enc d n xs) → Holds l (o + i * w) (enc (get_or xs i d))
  table-holds l o i xs hi h = holds-run w n i o l (λ k. enc (get_or xs k d)) (λ k. wide (get_or xs k d)) hi h

  -- ---- a row is read by dec, at any place

  module _ (dec : List ℕ → ℕ → A) (l : List ℕ) (o : ℕ) where
    -- the rows that l holds are read back
    pub table_back : (Good : A → Type 0) → ((p : ℕ) (x : A) → Good x → Holds l p (enc x) → dec l p ≡ x)
        → (xs : List A) → length xs ≡ n → ((k : ℕ) → k < n → Good (get_or xs k d)) → Holds l o (table enc d n xs)
        → tab n (λ k. dec l (o + k * w)) ≡ xs
    table_back Good back xs lx good h =
        tab_ext n (λ k. dec l (o + k * w)) (λ k. get_or xs k d) (λ k p. back (o + k * w) (get_or xs k d) (good k p) (table-holds l o k xs p h))
        ∙ tab_get_d xs n d lx

  -- one image, one list of rows
  pub table_injective : (Good : A → Type 0) → ((x y : A) → Good x → Good y → enc x ≡ enc y → x ≡ y)
      → (xs ys : List A) → length xs ≡ n → length ys ≡ n → ((k : ℕ) → k < n → Good (get_or xs k d)) → ((k : ℕ) → k < n → Good (get_or ys k d))
      → table enc d n xs ≡ table enc d n ys → xs ≡ ys
  table_injective Good injective xs ys lx ly gx gy e = ext_get_or d xs ys (lx ∙ sym ly) (λ k h. one k (omega arith))
    where
      one : (k : ℕ) → k < n → get_or xs k d ≡ get_or ys k d
      one k h =
          let x = get_or xs k d in
          let y = get_or ys k d in
          let held : Holds (table enc d n xs) 0 (table enc d n ys) = rw e (holds_self (table enc d n ys)) in
          injective x y (gx k h) (gy k h)
          (holds_same (table enc d n xs) (enc x) (enc y) (0 + k * w) (wide x ∙ sym (wide y))
          (table-holds (table enc d n xs) 0 k xs h (holds_self (table enc d n xs)))
          (table-holds (table enc d n xs) 0 k ys h held))

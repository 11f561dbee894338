-- Laws of rows: what a row holds, the row of a list, and one view more at its end. Assumes nothing.
use Rattle.std.specs.Prelude.{if◌then◌else◌}
use mathlib.Core.Path.{◌≡◌, refl, sym, ap, ap₂, ◌∙◌}
use mathlib.Core.Bool.{Bool, true, false}
use mathlib.Core.List.{List, [], ◌∷◌, ◌++◌, append_assoc}
use Prim.Native.Nat.{ℕ, zero, suc, ◌+◌, ◌-◌, ◌≤◌, ◌<◌, min}
use native.Mathlib.Omega.{arith}
use lib.Dec.{eqb, ltb}
use lib.ListN.{length, set, get_or, take, replicate, length-append, length-take}
use lib.Seq.{take_all, take-take, take-append_seam, take-append-le, set-append_seam}
use Rattle.std.proofs.lemmas.List.{take_min, take_more}
use Rattle.views.specs.declared.Sequence.{Sequence}
use Rattle.views.specs.Chain.{plus_of}
use Rattle.views.specs.Row.{views_of, row_of}

-- ---- what a row holds

module _ (q : Sequence) (full : length q.views ≡ 15) where
  pub views_length : length (views_of q) ≡ min q.len 15
  unfolding views_of
  views_length = rw (length-take, full)

  -- the code's part of the row: of a length above 15, all fifteen entries
  pub views_first : (n : ℕ) → n ≡ min q.len 15 → take n q.views ≡ views_of q
  unfolding views_of
  views_first n e = rw (e, ← full, take_min)

-- ---- the row of a list: only the first fifteen count

abbrev mk : List ℕ → ℕ → Sequence
mk vs n = record { views = vs; len = n }

pub row-take : (l : List ℕ) → row_of (take 15 l) ≡ row_of l
unfolding row_of
row-take l =
    let e : take 15 (take 15 l) ≡ take 15 l = take-take 15 15 l (omega arith) in
    let f : 15 - length (take 15 l) ≡ 15 - length l = omega (arith, length-take 15 l) in
    rw (e, f)

pub row_same : (a b : List ℕ) → take 15 a ≡ take 15 b → row_of a ≡ row_of b
row_same a b e = sym (row-take a) ∙ ap row_of e ∙ row-take b

pub held : (q : Sequence) (l : List ℕ) → q ≡ row_of l → views_of q ≡ take 15 l
unfolding views_of row_of
held q l e = rw e (take-append_seam (take 15 l) (replicate (15 - length l) 0))

-- what is the row of some list is the row of its own views
pub clean_row : (q : Sequence) (l : List ℕ) → q ≡ row_of l → q ≡ row_of (views_of q)
clean_row q l e = e ∙ sym (row-take l) ∙ ap row_of (sym (held q l e))

take_front : (n : ℕ) (x y : List ℕ) → take n (take n x ++ y) ≡ take n (x ++ y)
take_front zero x y = refl
take_front (suc n) [] y = refl
take_front (suc n) (w ∷ x) y = ap (λ (l : List ℕ). w ∷ l) (take_front n x y)

pub row-append : (x y : List ℕ) → row_of (take 15 x ++ y) ≡ row_of (x ++ y)
row-append x y = row_same _ _ (take_front 15 x y)

-- a row of l, and then the views m: the row of both
pub row_joined : (a r : Sequence) (l m : List ℕ) → a ≡ row_of l → r ≡ row_of (views_of a ++ m) → r ≡ row_of (l ++ m)
row_joined a r l m e f = f ∙ rw (held a l e, row-append)

-- one more of the views of xs
pub row_more : (a r : Sequence) (l xs : List ℕ) (i : ℕ) → i < length xs → a ≡ row_of (l ++ take i xs) → r ≡ row_of (views_of a ++ (get_or xs i 0 ∷ []))
    → r ≡ row_of (l ++ take (i + 1) xs)
row_more a r l xs i h e f = row_joined a r _ _ e f ∙ rw (take_more xs i 0 h, append_assoc)

take_cons : (n w : ℕ) (l : List ℕ) → take n (w ∷ take n l) ≡ take n (w ∷ l)
take_cons zero w l = refl
take_cons (suc n) w l = ap (λ (m : List ℕ). w ∷ m) (take-take n (suc n) l (omega arith))

take-plus : (v n : ℕ) (l : List ℕ) → take n (plus_of v (take n l)) ≡ take n (plus_of v l)
unfolding plus_of
take-plus v zero l = refl
take-plus v (suc n) [] = refl
take-plus v (suc n) (w ∷ l) = go (ltb v w) (eqb v w) (take-plus v n l)
  where
    go : (s t : Bool) → take n (plus_of v (take n l)) ≡ take n (plus_of v l)
        → take (suc n) (if s then v ∷ w ∷ take n l else if t then w ∷ take n l else w ∷ plus_of v (take n l))
        ≡ take (suc n) (if s then v ∷ w ∷ l else if t then w ∷ l else w ∷ plus_of v l)
    go true t ih = ap (λ (m : List ℕ). v ∷ m) (take_cons n w l)
    go false true ih = ap (λ (m : List ℕ). w ∷ m) (take-take n n l (omega arith))
    go false false ih = ap (λ (m : List ℕ). w ∷ m) ih

pub row-plus : (v : ℕ) (l : List ℕ) → row_of (plus_of v (take 15 l)) ≡ row_of (plus_of v l)
row-plus v l = row_same _ _ (take-plus v 15 l)

-- ---- one view more, at the end

row_room : (l : List ℕ) (v : ℕ) → length l < 15 → mk (set (row_of l).views (length l) v) (length l + 1) ≡ row_of (l ++ (v ∷ []))
unfolding row_of
row_room l v h =
    let m : ℕ = 14 - length l in
    let e : 15 - length l ≡ suc m = omega arith in
    let f : 15 - length (l ++ (v ∷ [])) ≡ m = simp length-append (omega arith) in
    let g : take 15 l ≡ l = take_all 15 l (omega arith) in
    let k : take 15 (l ++ (v ∷ [])) ≡ l ++ (v ∷ []) = take_all 15 _ (simp length-append (omega arith)) in
    ap₂ mk (rw (g, e, set-append_seam l 0 (replicate m 0) v, k, f, append_assoc)) (rw (k, length-append))

module _ (q : Sequence) (v : ℕ) (clean : q ≡ row_of (views_of q)) (full : length q.views ≡ 15) where
  pub pushed_full : 15 ≤ q.len → q ≡ row_of (views_of q ++ (v ∷ []))
  pushed_full h =
      let long : 15 ≤ length (views_of q) = omega (arith, views_length q full) in
      clean ∙ row_same _ _ (sym (take-append-le 15 (views_of q) (v ∷ []) long))

  pub pushed : q.len < 15 → mk (set q.views q.len v) (q.len + 1) ≡ row_of (views_of q ++ (v ∷ []))
  pushed h =
      let n : q.len ≡ length (views_of q) = omega (arith, views_length q full) in
      ap (λ (k : ℕ). mk (set q.views k v) (k + 1)) n
      ∙ ap (λ (r : Sequence). mk (set r.views (length (views_of q)) v) (length (views_of q) + 1)) clean
      ∙ row_room (views_of q) v (omega arith)

-- Tests of each number below n, as tests of lists, and of bytes that stand in a buffer. Assumes nothing.
use Rattle.std.specs.Prelude.{◌&&◌}
use mathlib.Core.Path.{◌≡◌, refl, sym, ap, ◌∙◌}
use mathlib.Core.Bool.{Bool, true, false, and-true, and_assoc}
use mathlib.Core.List.{List, [], ◌∷◌, ◌++◌}
use Prim.Native.Nat.{ℕ, zero, suc, ◌+◌, ◌*◌, ◌-◌, ◌≤◌, ◌<◌}
use native.Mathlib.Nat.{add-mul, add-zero, zero-add, add_assoc}
use native.Mathlib.Decide.{dec_lt}
use native.Mathlib.Omega.{arith}
use lib.Dec.{eqb, leb}
use lib.ListN.{get_or-append, get_or-eq_default, length, get_or, take, drop, take-append-drop, length-drop}
use lib.Seq.{ext_get_or, get_or-take, get_or-drop, length-take-le, get_or-append-add, drop-drop}
use borrow.Author.Tests.{eqb-true, eq-eqb, leb-true, leb-false}
use lib.Pointwise.{pointwise}
use mathlib.Core.Logic.{◌≢◌}
use Rattle.std.specs.Bool.{MatchBool, nat_eq}
use Rattle.std.specs.Cmp.Lexicographic.{told_text}
use Rattle.rows.specs.Bytes.{placed, tab, zeros}
use Rattle.rows.specs.Tests.{all, all_zero}
use Rattle.rows.proofs.All.{all_none, all_at, all_every}
use Rattle.rows.proofs.Laws.{Holds, holds_self, holds-run, holds-byte, placed_fits, tab_get_d, length-tab}
use Rattle.rows.proofs.Tables.{splice-whole, length-zeros}
use Rattle.rules.specs.Sets as sets
use Rattle.rules.specs.WellFormed.{all_from, distinct}
use Rattle.good.specs.Rows.{held, differs}

-- ---- tests of a list

pub all_same : (n : ℕ) (f g : ℕ → Bool) → ((k : ℕ) → k < n → f k ≡ g k) → all n f ≡ all n g
unfolding all
all_same zero f g h = refl
all_same (suc n) f g h = rw (all_same n f g (λ k p. h k (omega arith)), h n (omega arith))

module _ {A : Type 0} where
  from-append : (n : ℕ) (f : ℕ → A → Bool) (xs : List A) (x : A) → all_from n f (xs ++ (x ∷ [])) ≡ all_from n f xs && f (n + length xs) x
  unfolding all_from
  from-append n f [] x = rw (add-zero n) (and-true (f n x))
  from-append n f (y ∷ xs) x =
      let e : suc n + length xs ≡ n + suc (length xs) = omega arith in
      rw (from-append (suc n) f xs x, e) (sym (and_assoc (f n y) (all_from (suc n) f xs) (f (n + suc (length xs)) x)))

  pub from-tab : (n : ℕ) (f : ℕ → A → Bool) (g : ℕ → A) → all_from 0 f (tab n g) ≡ all n (λ k. f k (g k))
  unfolding tab all_from all
  from-tab zero f g = refl
  from-tab (suc n) f g = from-append 0 f (tab n g) (g n) ∙ rw (length-tab n g, zero-add n, from-tab n f g)

  pub from_list : (n : ℕ) (f : ℕ → A → Bool) (d : A) (xs : List A) → length xs ≡ n → all_from 0 f xs ≡ all n (λ k. f k (get_or xs k d))
  from_list n f d xs e = ap (all_from 0 f) (sym (tab_get_d xs n d e)) ∙ from-tab n f (λ k. get_or xs k d)

  all_append : (f : A → Bool) (xs : List A) (x : A) → sets.all f (xs ++ (x ∷ [])) ≡ sets.all f xs && f x
  unfolding sets.all
  all_append f [] x = and-true (f x)
  all_append f (y ∷ xs) x = rw (all_append f xs x) (sym (and_assoc (f y) (sets.all f xs) (f x)))

  pub all-tab : (n : ℕ) (f : A → Bool) (g : ℕ → A) → sets.all f (tab n g) ≡ all n (λ k. f (g k))
  unfolding tab sets.all all
  all-tab zero f g = refl
  all-tab (suc n) f g = all_append f (tab n g) (g n) ∙ rw (all-tab n f g)

  pub all_list : (f : A → Bool) (d : A) (xs : List A) → sets.all f xs ≡ all (length xs) (λ k. f (get_or xs k d))
  all_list f d xs = ap (sets.all f) (sym (tab_get_d xs (length xs) d refl)) ∙ all-tab (length xs) f (λ k. get_or xs k d)

  distinct_append : (d : A → A → Bool) (xs : List A) (x : A) → distinct d (xs ++ (x ∷ [])) ≡ distinct d xs && sets.all (λ y. d y x) xs
  unfolding distinct sets.all
  distinct_append d [] x = refl
  distinct_append d (y ∷ xs) x = rw (all_append (d y) xs x, distinct_append d xs x) (go (sets.all (d y) xs) (d y x) (distinct d xs) (sets.all (λ z. d z x) xs))
    where
      go : (p q r s : Bool) → (p && q) && (r && s) ≡ (p && r) && (q && s)
      go true true r s = refl
      go true false true s = refl
      go true false false s = refl
      go false q r s = refl

  -- each differs from all before it
  pub distinct-tab : (n : ℕ) (d : A → A → Bool) (g : ℕ → A) → distinct d (tab n g) ≡ all n (differs d g)
  unfolding tab distinct all differs
  distinct-tab zero d g = refl
  distinct-tab (suc n) d g = distinct_append d (tab n g) (g n) ∙ rw (distinct-tab n d g, all-tab n (λ y. d y (g n)) g)

-- ---- bytes that stand in a buffer

pub written : {l : List ℕ} (a b : List ℕ) → length b ≡ length a → l ≡ placed a 0 b → l ≡ b
written a b e h = h ∙ placed_fits a b 0 (omega arith) ∙ splice-whole a b e

module _ (l : List ℕ) (o : ℕ) (b : List ℕ) where
  pub held_true : Holds l o b → held l o b ≡ true
  unfolding held
  held_true h = all_every (length b) (λ k. eqb (get_or l (o + k) 0) (get_or b k 0)) (λ k p. eq-eqb (get_or l (o + k) 0) (get_or b k 0) (one k p))
    where
      one : (k : ℕ) → k < length b → get_or l (o + k) 0 ≡ get_or b k 0
      one k p =
          ap (λ (t : List ℕ). get_or t (o + k) 0) h.whole
          ∙ rw (← h.long) (get_or-append-add h.pre (b ++ h.post) k 0)
          ∙ get_or-append b h.post 0 k p

  pub part_held : take (length b) (drop o l) ≡ b → held l o b ≡ true
  unfolding held
  part_held e =
      all_every (length b) (λ k. eqb (get_or l (o + k) 0) (get_or b k 0))
      (λ k p. eq-eqb (get_or l (o + k) 0) (get_or b k 0)
      (sym (get_or-drop o l k 0) ∙ sym (get_or-take (length b) (drop o l) k 0 p) ∙ ap (λ (t : List ℕ). get_or t k 0) e))

  pub held_part : o + length b ≤ length l → held l o b ≡ true → take (length b) (drop o l) ≡ b
  unfolding held
  held_part room e =
      let long : length (take (length b) (drop o l)) ≡ length b = length-take-le (length b) (drop o l) (rw (length-drop o l) (omega arith)) in
      ext_get_or 0 (take (length b) (drop o l)) b long
      (λ k p. get_or-take (length b) (drop o l) k 0 (omega arith) ∙ get_or-drop o l k 0
      ∙ eqb-true (get_or l (o + k) 0) (get_or b k 0) (all_at (length b) k (λ k. eqb (get_or l (o + k) 0) (get_or b k 0)) e (omega arith)))

  pub held_fact : o + length b ≤ length l → held l o b ≡ true → Holds l o b
  held_fact room e =
      record { pre = take o l; post = drop (o + length b) l; long = length-take-le o l (omega arith); whole = whole }
    where
      whole : l ≡ take o l ++ (b ++ drop (o + length b) l)
      whole =
          sym (take-append-drop o l)
          ∙ ap (λ (t : List ℕ). take o l ++ t) (sym (take-append-drop (length b) (drop o l)) ∙ rw (held_part room e, drop-drop))

  -- `==` of the n elements from o on
  pub part_same : {n : ℕ} → length b ≡ n → o + n ≤ length l → {r : Bool}
      → r ≡ pointwise nat_eq (take (o + n - o) (drop o l)) b → r ≡ held l o b
  part_same {n} long room {r} e = go r (told_text (take (o + n - o) (drop o l)) b r e)
    where
      same : o + n - o ≡ length b
      same = omega arith

      go : (r : Bool) → MatchBool r (take (o + n - o) (drop o l) ≡ b) (take (o + n - o) (drop o l) ≢ b) → r ≡ held l o b
      go true h = sym (part_held (rw same at h))
      go false h = case (held l o b) refl
        where
          case : (t : Bool) → held l o b ≡ t → false ≡ held l o b
          case true q = absurd (h (rw same (held_part (omega arith) q)))
          case false q = sym q

zero_at : (n k : ℕ) → get_or (zeros n) k 0 ≡ 0
unfolding zeros
zero_at n k = go (leb n k) refl
  where
    go : (t : Bool) → leb n k ≡ t → get_or (zeros n) k 0 ≡ 0
    go true e = get_or-eq_default (zeros n) 0 (omega (arith, length-zeros n, leb-true n k e))
    go false e =
        let same : 0 + k * 1 ≡ k = omega arith in
        holds-byte (zeros n) k 0 [] (rw same at (holds-run 1 n k 0 (zeros n) (λ k. 0 ∷ []) (λ k. refl) (leb-false n k e) (holds_self (zeros n))))

-- zeros stand where all is zero
pub zero_held : (l : List ℕ) (o n : ℕ) → all_zero l o n ≡ held l o (zeros n)
unfolding all_zero held
zero_held l o n = rw (length-zeros n) (all_same n (λ k. eqb (get_or l (o + k) 0) 0) (λ k. eqb (get_or l (o + k) 0) (get_or (zeros n) k 0)) (λ k p. ap (eqb (get_or l (o + k) 0)) (sym (zero_at n k))))

-- ---- parts of what is zero

module _ (l : List ℕ) (o : ℕ) where
  pub zero_part : (n m k : ℕ) → m + k ≤ n → all_zero l o n ≡ true → all_zero l (o + m) k ≡ true
  unfolding all_zero
  zero_part n m k h e =
      all_every k (λ j. eqb (get_or l (o + m + j) 0) 0)
      (λ j p. rw (add_assoc o m j) (all_at n (m + j) (λ j. eqb (get_or l (o + j) 0) 0) e (omega arith)))

  pub zero_join : (m k : ℕ) → all_zero l o m ≡ true → all_zero l (o + m) k ≡ true → all_zero l o (m + k) ≡ true
  unfolding all_zero
  zero_join m k e f = all_every (m + k) (λ j. eqb (get_or l (o + j) 0) 0) (λ j p. go j p (leb m j) refl)
    where
      go : (j : ℕ) → j < m + k → (b : Bool) → leb m j ≡ b → eqb (get_or l (o + j) 0) 0 ≡ true
      go j p true t =
          let q = leb-true m j t in
          let same : o + m + (j - m) ≡ o + j = omega arith in
          rw same at (all_at k (j - m) (λ j. eqb (get_or l (o + m + j) 0) 0) f (omega arith))
      go j p false t = all_at m j (λ j. eqb (get_or l (o + j) 0) 0) e (leb-false m j t)

pub all_none_zero : (l : List ℕ) (o : ℕ) → all_zero l o 0 ≡ true
unfolding all_zero
all_none_zero l o = all_none (λ k. eqb (get_or l (o + k) 0) 0)

-- where all is zero from place i on, it is from each later place on
pub zero_later : (n : ℕ) (l : List ℕ) (o i k : ℕ) → i ≤ k → all_zero l (o + i * n) ((8 - i) * n) ≡ true
    → all_zero l (o + k * n) ((8 - k) * n) ≡ true
unfolding all_zero
zero_later n l o i k h e =
    all_every ((8 - k) * n) _ (λ j p. rw (at j) (all_at ((8 - i) * n) ((k - i) * n + j) (λ m. eqb (get_or l (o + i * n + m) 0) 0) e (inside j p)))
  where
    times : (a b c : ℕ) → a ≡ b + c → a * n ≡ b * n + c * n
    times a b c q = ap (λ (x : ℕ). x * n) q ∙ add-mul b c n

    at : (j : ℕ) → o + k * n + j ≡ o + i * n + ((k - i) * n + j)
    at j = omega (arith, times k i (k - i) (omega arith))

    inside : (j : ℕ) → j < (8 - k) * n → (k - i) * n + j < (8 - i) * n
    inside j p = go (dec_lt k 8)
      where
        go : Dec (k < 8) → (k - i) * n + j < (8 - i) * n
        go (yes q) = omega (arith, times (8 - i) (k - i) (8 - k) (omega arith))
        go (no q) = absurd (omega (arith, ap (λ (x : ℕ). x * n) (let z : 8 - k ≡ 0 = omega arith in z)))

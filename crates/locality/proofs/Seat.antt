-- The seat of a key in a table: the place of its element, or the end where there is none. What is put back is written at its seat. Assumes nothing.
use Rattle.std.specs.Prelude.{if◌then◌else◌}
use mathlib.Core.Path.{◌≡◌, refl, ap, ◌∙◌}
use mathlib.Core.Logic.{◌⊎◌, inl, inr, ⊎_elim}
use mathlib.Core.Bool.{Bool, true, false}
use mathlib.Core.List.{List, [], ◌∷◌, ◌++◌}
use Prim.Native.Nat.{ℕ, zero, suc, ◌≤◌, ◌<◌, suc-le-suc}
use native.Mathlib.Nat.{le_of_suc-le-suc}
use native.Mathlib.Omega.{arith}
use lib.Dec.{leb, ltb}
use lib.ListN.{length, get_or, set, length-set, length-append}
use borrow.Author.Tests.{ltb-true, ltb-false, lt-ltb, le-leb}
use Rattle.views.proofs.Truth.{decided}
use Rattle.rules.specs.Sets.{those}
use Rattle.rules.specs.WellFormed.{distinct}
use Rattle.rules.proofs.Hold.{distinct_parts}
use Rattle.rows.proofs.Change.{Changed, changed_set, changed_add}
use Rattle.locality.proofs.Table.{Table, part, part_alone, put_first, put_later, those_with, those_without}

-- the index of the first that passes the test, or the length
unfoldable pub seat : {A : Type 0} → (A → Bool) → List A → ℕ
seat f [] = 0
seat f (x ∷ xs) = if f x then 0 else suc (seat f xs)

module _ {A : Type 0} (f : A → Bool) where
  module _ (x : A) (xs : List A) where
    pub seat_first : f x ≡ true → seat f (x ∷ xs) ≡ 0
    unfolding seat
    seat_first e = rw e

    pub seat_later : f x ≡ false → seat f (x ∷ xs) ≡ suc (seat f xs)
    unfolding seat
    seat_later e = rw e

  pub seat_within : (xs : List A) → seat f xs ≤ length xs
  seat_within [] = unfold seat in (omega arith)
  seat_within (x ∷ xs) =
      ⊎_elim (λ e. rw (seat_first x xs e) (omega arith)) (λ e. rw (seat_later x xs e) (suc-le-suc (seat_within xs))) (decided (f x))

  -- an index that a search from the start stops at is the seat
  pub seat_is : (xs : List A) (i : ℕ) (d : A) → i ≤ length xs → ((k : ℕ) → k < i → f (get_or xs k d) ≡ false) → (i < length xs → f (get_or xs i d) ≡ true)
      → seat f xs ≡ i
  seat_is [] zero d h below here = unfold seat in refl
  seat_is [] (suc i) d h below here = absurd (omega arith)
  seat_is (x ∷ xs) zero d h below here = seat_first x xs (here (omega arith))
  seat_is (x ∷ xs) (suc i) d h below here =
      seat_later x xs (below 0 (omega arith)) ∙ ap suc (seat_is xs i d (le_of_suc-le-suc h) (λ k p. below (suc k) (suc-le-suc p)) (λ p. here (suc-le-suc p)))

-- ---- what the part of a table shows, and where what is put back stands

module _ {A K : Type 0} (T : Table A K) (k : K) where
  -- the seat of k
  abbrev pub seat_in : List A → ℕ
  seat_in xs = seat (T.is k) xs

  -- present, or absent: then the seat is the end
  pub present : (xs : List A) → (seat_in xs < length xs) ⊎ (seat_in xs ≡ length xs)
  present xs =
      ⊎_elim (λ e. inl (ltb-true _ _ e)) (λ e. inr (omega (arith, seat_within (T.is k) xs, ltb-false (seat_in xs) (length xs) e))) (decided (ltb (seat_in xs) (length xs)))

  -- by whether the first element has the key
  by_first : (P : Type 0) (x : A) (xs : List A) → (T.is k x ≡ true → seat_in (x ∷ xs) ≡ 0 → P) → (T.is k x ≡ false → seat_in (x ∷ xs) ≡ suc (seat_in xs) → P) → P
  by_first P x xs f g = ⊎_elim (λ e. f e (seat_first (T.is k) x xs e)) (λ e. g e (seat_later (T.is k) x xs e)) (decided (T.is k x))

  pub part_present : (xs : List A) (d : A) → distinct T.other xs ≡ true → seat_in xs < length xs → part T k xs ≡ get_or xs (seat_in xs) d ∷ []
  part_present [] d u h = absurd (omega arith)
  part_present (x ∷ xs) d u h =
      let a = distinct_parts T.other x xs u in
      by_first _ x xs (λ e z. rw (z, those_with (T.is k) x xs e, part_alone T k x xs e a.0))
      (λ e z. rw (z, those_without (T.is k) x xs e) (part_present xs d a.1 (le_of_suc-le-suc (rw z at h))))

  pub part_absent : (xs : List A) → seat_in xs ≡ length xs → part T k xs ≡ []
  part_absent [] h = unfold those in refl
  part_absent (x ∷ xs) h =
      by_first _ x xs (λ e z. absurd (omega arith)) (λ e z. rw (those_without (T.is k) x xs e) (part_absent xs (omega arith)))

  -- ---- y, which has that key, is put back

  module _ (y : A) (for : T.key y ≡ k) where
    pub put_present : (xs : List A) → seat_in xs < length xs → T.put y xs ≡ set xs (seat_in xs) y
    put_present [] h = absurd (omega arith)
    put_present (x ∷ xs) h =
        by_first _ x xs (λ e z. rw (z, put_first T k y for x xs e))
        (λ e z. rw (z, put_later T k y for x xs e, put_present xs (le_of_suc-le-suc (rw z at h))))

    pub put_absent : (xs : List A) → seat_in xs ≡ length xs → T.put y xs ≡ xs ++ (y ∷ [])
    put_absent [] h = T.put-none y
    put_absent (x ∷ xs) h =
        by_first _ x xs (λ e z. absurd (omega arith)) (λ e z. rw (put_later T k y for x xs e, put_absent xs (omega arith)))

    pub put_changed : (d : A) (xs : List A) → Changed d xs (seat_in xs) y (T.put y xs)
    put_changed d xs =
        ⊎_elim (λ h. rw (put_present xs h) (changed_set xs (seat_in xs) y h)) (λ h. rw (put_absent xs h, h) (changed_add xs y)) (present xs)

    -- there is room exactly where the seat is
    pub put_fits : (n : ℕ) (xs : List A) → length xs ≤ n → leb (length (T.put y xs)) n ≡ ltb (seat_in xs) n
    put_fits n xs h =
        let longer : length (xs ++ (y ∷ [])) ≡ suc (length xs) = simp length-append (omega arith) in
        ⊎_elim (λ p. rw (put_present xs p, length-set xs (seat_in xs) y, le-leb (length xs) n h, lt-ltb (seat_in xs) n (omega arith)))
        (λ p. rw (put_absent xs p, p, longer)) (present xs)

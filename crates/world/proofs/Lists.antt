-- Lists, as the searches, counts and loops of this crate ask for them: the first that passes, the part that passes of a list that grows, and one place
-- written with what it holds. Assumes nothing.
use Rattle.std.specs.Prelude.{if◌then◌else◌, Option, None, Some, is_some, MatchOption, filter}
use Rattle.std.specs.Bool.{⊤}
use Rattle.std.specs.Fn.{CalledAt}
use Rattle.std.specs.Iterator.{YieldsThen}
use Rattle.std.specs.List.{range_with_len, FoldsTo}
use Rattle.std.specs.declared.ops.Range.{Range}
use Rattle.std.proofs.iter.Yields.{nat_range_steps}
use Rattle.std.proofs.lemmas.Iterator.{first_from_Range}
use denote.Param.Members.{Mut}
use denote.Ref.{Bor}
use Rattle.std.proofs.lemmas.List.{map-id}
use Rattle.std.proofs.lemmas.List.FromFn.{length-range_with_len, map-range_with_len_more}
use Rattle.std.proofs.lemmas.List.Sums.{length-filter, count_by-le-length}
use mathlib.Core.Path.{◌≡◌, refl, sym, ap, ◌∙◌}
use mathlib.Core.Logic.{⊎_elim}
use mathlib.Core.Bool.{Bool, true, false, ◌||◌}
use mathlib.Core.List.{List, [], ◌∷◌, ◌++◌, append-nil, map}
use Prim.Native.Nat.{ℕ, zero, suc, ◌+◌, ◌≤◌, ◌<◌}
use native.Mathlib.Numerals.{add-one}
use native.Mathlib.Omega.{arith}
use lib.Dec.{leb, ltb}
use lib.ListN.{get_or-eq_default, length, get_or, set, length-append}
use borrow.Author.Tests.{lt-ltb, leb-true, leb-false, ltb-true, ltb-false}
use Rattle.views.proofs.Truth.{decided, contrary, neither_true, either_true}
use Rattle.rows.specs.Bytes.{tab}
use Rattle.rules.specs.Sets.{those}
use Rattle.rules.proofs.Lists.{those-append}
use Rattle.world.specs.Commits.{First, Found}
use Rattle.locality.proofs.Seat.{seat, seat_is}

-- ---- a search from low on, none below which passes

found_from : (n low : ℕ) (f : ℕ → Bool) (r : Option ℕ) → low ≤ n → ((k : ℕ) → k < low → f k ≡ false)
    → MatchOption r ((k : ℕ) → low ≤ k → k < n → f k ≡ false) (λ i. (low ≤ i) × (i < n) × (f i ≡ true) × ((k : ℕ) → low ≤ k → k < i → f k ≡ false))
    → Found n f r
found_from n low f None fits b m = (
  record {
    within = omega arith;
    below = λ k h. ⊎_elim (λ e. b k (ltb-true k low e)) (λ e. m k (ltb-false k low e) h) (decided (ltb k low));
    here = λ h. absurd (omega arith);
  },
  tt,
)
found_from n low f (Some i) fits b m = (
  record {
    within = omega (arith, m.1);
    below = λ k h. ⊎_elim (λ e. b k (ltb-true k low e)) (λ e. m.3 k (ltb-false k low e) h) (decided (ltb k low));
    here = λ h. m.2;
  },
  m.1,
)

-- `find` over a range, by a closure that tests f
pub found_by : {F : Type 0} {g : Mut F (Bor ℕ × Unit {0}) Bool} (s u : Range ℕ) (h : F) (f : ℕ → Bool) (r : Option ℕ) → s.start ≤ s.end
    → ((k : ℕ) → k < s.start → f k ≡ false)
    → (xs : List ℕ) × (j : F) × YieldsThen nat_range_steps s xs r u × FoldsTo (λ p x q. CalledAt g p x false q) h xs j
    × MatchOption r ⊤ (λ x. (q : F) × CalledAt g j x true q)
    → ((x : ℕ) (b : Bool) (q : F) → CalledAt g h x b q → (q ≡ h) × (b ≡ f x)) → Found s.end f r
found_by s u h f r fits none ran computes =
    found_from s.end s.start f r fits none
    (first_from_Range s u h r (λ k. f k ≡ true) (λ k. f k ≡ false) ran (λ x q k. sym (computes x true q k).1)
    (λ x q k. let t = computes x false q k in (t.0, sym t.1)))

-- a seat is found where the first that passes is one of the eight
pub seat_room : (f : ℕ → Bool) (b : Bool) → ((i : ℕ) → First 8 f i → ltb i 8 ≡ b) → (x : Option ℕ) → Found 8 f x → is_some x ≡ b
seat_room f b k None h = k 8 h.0
seat_room f b k (Some i) h = sym (lt-ltb i 8 h.1) ∙ k i h.0

-- ---- the part that passes

module _ {A : Type 0} (f : A → Bool) (g : ℕ → A) (i : ℕ) where
  those_more : f (g i) ≡ true → those f (tab (i + 1) g) ≡ those f (tab i g) ++ (g i ∷ [])
  unfolding tab
  those_more e = rw (add-one, tab, those-append f (tab i g) (g i ∷ [])) (unfold those in (rw e))

  those_same : f (g i) ≡ false → those f (tab (i + 1) g) ≡ those f (tab i g)
  unfolding tab
  those_same e = rw (add-one, tab, those-append f (tab i g) (g i ∷ [])) (unfold those in (rw e (append-nil (those f (tab i g)))))

  pub those_counted : length (those f (tab (i + 1) g)) ≡ length (those f (tab i g)) + (if f (g i) then 1 else 0)
  those_counted =
      ⊎_elim (λ e. rw (those_more e, e) (length-append (those f (tab i g)) (g i ∷ []))) (λ e. rw (those_same e, e) (omega arith)) (decided (f (g i)))

-- the same as a chain over a range has it
pub tab_range : {A : Type 0} (g : ℕ → A) (n : ℕ) → map g (range_with_len 0 n) ≡ tab n g
unfolding tab
tab_range g zero = refl
tab_range {A} g (suc n) = rw add-one at (map-range_with_len_more g 0 n n (omega arith)) ∙ ap (λ (l : List A). l ++ (g n ∷ [])) (tab_range g n)

pub those_filter : {A : Type 0} (f : A → Bool) (xs : List A) → filter f xs ≡ those f xs
unfolding those
those_filter f [] = refl
those_filter {A} f (x ∷ xs) = ap (λ (l : List A). if f x then x ∷ l else l) (those_filter f xs)

pub passing : (f : ℕ → Bool) (n : ℕ) → filter f (range_with_len 0 n) ≡ those f (tab n (λ k. k))
passing f n = those_filter f (range_with_len 0 n) ∙ ap (those f) (sym (map-id (range_with_len 0 n)) ∙ tab_range (λ k. k) n)

pub passing_few : (f : ℕ → Bool) (n : ℕ) → length (filter f (range_with_len 0 n)) ≤ n
passing_few f n = omega (arith, length-filter f (range_with_len 0 n), count_by-le-length f (range_with_len 0 n), length-range_with_len 0 n)

module _ {A : Type 0} (f g : A → Bool) (h : (x : A) → f x ≡ true → g x ≡ true) where
  -- what passes f passes g before
  pub those_again : (xs : List A) → those f (those g xs) ≡ those f xs
  unfolding those
  those_again [] = refl
  those_again (x ∷ xs) = go (g x) refl (f x) refl (those_again xs)
    where
      go : (t : Bool) → g x ≡ t → (u : Bool) → f x ≡ u → those f (those g xs) ≡ those f xs → those f (if t then x ∷ those g xs else those g xs) ≡ (if u then x ∷ those f xs else those f xs)
      go true e true k r = rw (k, r)
      go true e false k r = rw (k, r)
      go false e true k r = absurd (contrary (h x k) e)
      go false e false k r = r

-- ---- the seat that a search finds: rows are those of xs and then d's, a row that is not filled ends the search

module _ {A : Type 0} (xs : List A) (d : A) (blank f : A → Bool) (n : ℕ) (stop : ℕ → Bool)
    (few : length xs ≤ n) (ends : blank d ≡ true) (filled : (k : ℕ) → k < length xs → blank (get_or xs k d) ≡ false)
    (is : (k : ℕ) → k < n → stop k ≡ (blank (get_or xs k d) || f (get_or xs k d))) where
  pub seat_found : (i : ℕ) → First n stop i → seat f xs ≡ i
  seat_found i r =
      seat_is f xs i d short (λ k p. (neither_true (blank (get_or xs k d)) (f (get_or xs k d)) (sym (is k (omega (arith, r.within))) ∙ r.below k p)).1) here
    where
      last : length xs < i → stop (length xs) ≡ true
      last h = is (length xs) (omega (arith, r.within)) ∙ rw (get_or-eq_default xs d {n = length xs} (omega arith), ends)

      short : i ≤ length xs
      short =
          ⊎_elim (λ e. leb-true i (length xs) e) (λ e. let h = leb-false i (length xs) e in absurd (contrary (last h) (r.below (length xs) h))) (decided (leb i (length xs)))

      here : i < length xs → f (get_or xs i d) ≡ true
      here p =
          ⊎_elim (λ e. absurd (contrary e (filled i p))) (λ e. e)
          (either_true (blank (get_or xs i d)) (f (get_or xs i d)) (sym (is i (omega arith)) ∙ r.here (omega arith)))

-- ---- one place of a list, written with what it holds

module _ {A : Type 0} where
  pub set_self : (xs : List A) (i : ℕ) (d : A) → set xs i (get_or xs i d) ≡ xs
  set_self [] i d = refl
  set_self (x ∷ xs) zero d = refl
  set_self (x ∷ xs) (suc i) d = ap (λ (l : List A). x ∷ l) (set_self xs i d)

-- ---- what is there, or not, by a clause that says what follows either way

pub by_option : {A R P : Type 0} {Q : A → Type 0} (o : Option A) → MatchOption o P Q → (o ≡ None → P → R) → ((x : A) → o ≡ Some x → Q x → R) → R
by_option None m f g = f refl m
by_option (Some x) m f g = g x refl m

-- `all` over the numbers below n, or over a slice's elements and their numbers, tests each of them; after `take_while`, each before the first that stops.
-- Assumes nothing.
use mathlib.Core.Path.{◌≡◌, refl, sym, ap, ◌∙◌}
use Rattle.std.specs.Prelude.{◌||◌}
use mathlib.Core.Bool.{Bool, true, false, not, or-true}
use mathlib.Core.List.{List}
use Prim.Native.Nat.{ℕ, ◌≤◌, ◌<◌}
use native.Mathlib.Nat.{zero-add}
use native.Mathlib.Omega.{arith}
use borrow.Author.Tests.{leb-true, leb-false, not-true, not-false}
use lib.Dec.{leb}
use lib.ListN.{length, get_or, take}
use lib.Seq.{get_or-take}
use denote.Ref.{Bor}
use denote.Param.Members.{Mut, Called}
use Rattle.std.specs.Bool.{MatchBool}
use Rattle.std.specs.Iterator.{ChecksAll}
use Rattle.std.specs.Fn.{CalledAt}
use Rattle.std.specs.Iterator.Adapters.{enumerate_source, enumerate_count, enumerate_steps}
use Rattle.std.specs.Iterator.Adapters.{take_while_source, take_while_callee, take_while_done, take_while_steps}
use Rattle.std.specs.List.{range_with_len, enumerate_from, prefix_len, AllWithin, HoldsAt}
use Rattle.std.specs.Slice.Iter.{iter_rest}
use Rattle.std.specs.declared.ops.Range.{Range}
use Rattle.std.specs.declared.slice.Iter.{Iter}
use Rattle.std.specs.declared.iter.Enumerate.{Enumerate}
use Rattle.std.specs.declared.iter.TakeWhile.{TakeWhile}
use Rattle.std.proofs.iter.Yields.{nat_range_steps, fronts}
use Rattle.std.proofs.lemmas.Iterator.{cases_from_all, YieldsList-from_range, YieldsList-from_slice}
use Rattle.std.proofs.lemmas.Iterator.Consumers.{YieldsList-from_enumerate}
use Rattle.std.proofs.lemmas.Iterator.Search.{YieldsList-from_take_while}
use Rattle.std.proofs.lemmas.List.Folds.{length-prefix_len}
use Rattle.std.proofs.lemmas.List.Sums.{prefix_len-le-length, prefix_len_passes, prefix_len_stops}
use Rattle.std.proofs.lemmas.List.FromFn.{length-range_with_len, get_or-range_with_len, length-enumerate_from, get_or-enumerate_from}
use Rattle.rows.specs.Tests.{all}
use Rattle.rows.proofs.All.{all_at, all_every, all_fails}
use Rattle.views.proofs.Truth.{same_truth}

-- t answers of the k-th of ys what it answers of the number k
module _ {B : Type 0} (d : B) (t : B → Bool) (n : ℕ) (ys : List B) (long : length ys ≡ n) (f : ℕ → Bool)
    (is : (k : ℕ) → k < n → t (get_or ys k d) ≡ f k) where
  answers : (r : Bool) → MatchBool r (AllWithin (λ y. t y ≡ true) ys 0 (length ys)) ((k : ℕ) × (k < length ys) × HoldsAt (λ y. t y ≡ false) ys k)
      → r ≡ all n f
  answers true h = sym (all_every n f (λ k p. sym (is k p) ∙ h k d (omega arith) (rw long p)))
  answers false h = let p : h.0 < n = rw long at h.1 in sym (all_fails n h.0 f p (sym (is h.0 p) ∙ h.2 d))

module _ (n : ℕ) (t : ℕ → Bool) where
  pub all_below : {F : Type 0} {g : Mut F (ℕ × Unit {0}) Bool} {f : F} {r : Bool} {s u : Range ℕ} → s ≡ record { start = 0; end = n }
      → ChecksAll nat_range_steps g s f r u → ((x : ℕ) (b : Bool) (q : F) → Called g f (x, tt) b q → (q ≡ f) × (b ≡ t x)) → r ≡ all n t
  all_below {f = f} {r = r} {u = u} e ran calls =
      answers 0 t n (range_with_len 0 n) (length-range_with_len 0 n) t (λ k p. ap t (get_or-range_with_len 0 n k 0 p ∙ zero-add k)) r
      (cases_from_all u f r (λ x. t x ≡ true) (λ x. t x ≡ false) ran (YieldsList-from_range 0 n n e (omega arith))
      (λ x q k. let c = calls x true q k in (c.0, sym c.1)) (λ x q k. sym (calls x false q k).1))

module _ {X : Type 0} (d : X) (xs : List X) (t : ℕ → X → Bool) where
  pub all_numbered : {F : Type 0} {g : Mut F ((ℕ × Bor X) × Unit {0}) Bool} {f : F} {r : Bool} {s u : Enumerate (Iter X)}
      → iter_rest (enumerate_source s) ≡ xs → enumerate_count s ≡ 0 → ChecksAll (enumerate_steps fronts) g s f r u
      → ((x : ℕ × Bor X) (b : Bool) (q : F) → Called g f (x, tt) b q → (q ≡ f) × (b ≡ t x.0 x.1.now))
      → r ≡ all (length xs) (λ k. t k (get_or xs k d))
  all_numbered {f = f} {r = r} {u = u} e first ran calls =
      answers (0, d) (λ p. t p.0 p.1) (length xs) (enumerate_from 0 xs) (length-enumerate_from 0 xs) (λ k. t k (get_or xs k d))
      (λ k p. ap (λ (y : ℕ × X). t y.0 y.1) (get_or-enumerate_from 0 xs k (0, d) p) ∙ ap (λ (i : ℕ). t i (get_or xs k d)) (zero-add k)) r
      (cases_from_all u f r (λ p. t p.0 p.1 ≡ true) (λ p. t p.0 p.1 ≡ false) ran (YieldsList-from_enumerate (YieldsList-from_slice xs e) first)
      (λ x q k. let c = calls x true q k in (c.0, sym c.1)) (λ x q k. sym (calls x false q k).1))

-- `all` after `take_while`: from a number that stops on, all later ones stop too
module _ (n : ℕ) (stop t : ℕ → Bool) (later : (i k : ℕ) → i ≤ k → k < n → stop i ≡ true → stop k ≡ true) where
  abbrev goes : ℕ → Bool
  goes k = not (stop k)

  abbrev below : List ℕ
  below = range_with_len 0 n

  taken : ℕ
  taken = prefix_len goes below

  few : taken ≤ n
  unfolding taken
  few = rw (length-range_with_len 0 n) at (prefix_len-le-length goes below)

  before : (k : ℕ) → k < taken → stop k ≡ false
  unfolding taken
  before k p =
      let q : k < n = omega (arith, few) in
      not-true (stop k) (sym (ap goes (get_or-range_with_len 0 n k 0 q ∙ zero-add k)) ∙ prefix_len_passes goes below k 0 p)

  after : (k : ℕ) → taken ≤ k → k < n → stop k ≡ true
  unfolding taken
  after k p q =
      let r : taken < n = omega arith in
      later taken k p q (not-false (stop taken) (sym (ap goes (get_or-range_with_len 0 n taken 0 r ∙ zero-add taken))
      ∙ prefix_len_stops goes below 0 (rw (length-range_with_len 0 n) r)))

  all_taken : all taken t ≡ all n (λ k. stop k || t k)
  all_taken =
      same_truth (all taken t) (all n (λ k. stop k || t k)) (λ e. all_every n (λ k. stop k || t k) (λ k p. one e k p (leb taken k) refl))
      (λ e. all_every taken t (λ k p. let q : k < n = omega (arith, few) in rw (before k p) at (all_at n k (λ k. stop k || t k) e q)))
    where
      one : all taken t ≡ true → (k : ℕ) → k < n → (b : Bool) → leb taken k ≡ b → stop k || t k ≡ true
      one e k p true h = rw (after k (leb-true taken k h) p)
      one e k p false h = rw (all_at taken k t e (leb-false taken k h)) (or-true (stop k))

  pub all_until : {F G : Type 0} {g : Mut F (ℕ × Unit {0}) Bool} (h : Mut G (Bor ℕ × Unit {0}) Bool)
      {f : F} {e : G} {r : Bool} {s u : TakeWhile (Range ℕ) G}
      → take_while_source s ≡ record { start = 0; end = n } → take_while_callee s ≡ e → take_while_done s ≡ false
      → ChecksAll (take_while_steps nat_range_steps h) g s f r u
      → ((x : ℕ) (b : Bool) (q : G) → CalledAt h e x b q → (q ≡ e) × (b ≡ not (stop x)))
      → ((x : ℕ) (b : Bool) (q : F) → Called g f (x, tt) b q → (q ≡ f) × (b ≡ t x)) → r ≡ all n (λ k. stop k || t k)
  unfolding taken
  all_until h {f = f} {r = r} {u = u} from is first ran asks calls =
      answers 0 t taken (take taken below) (length-prefix_len goes below) t
      (λ k p. let q : k < n = omega (arith, few) in ap t (get_or-take taken below k 0 p ∙ get_or-range_with_len 0 n k 0 q ∙ zero-add k)) r
      (cases_from_all u f r (λ x. t x ≡ true) (λ x. t x ≡ false) ran
      (YieldsList-from_take_while h goes (YieldsList-from_range 0 n n from (omega arith)) is first asks)
      (λ x q k. let c = calls x true q k in (c.0, sym c.1)) (λ x q k. sym (calls x false q k).1))
      ∙ all_taken

-- Conditions that all hold, and tests over lists. Assumes nothing.
use Rattle.std.specs.Prelude.{if◌then◌else◌, ◌&&◌}
use mathlib.Core.Path.{◌≡◌, refl}
use mathlib.Core.Bool.{Bool, true, false, not, and-eq-true_iff}
use mathlib.Core.List.{List, [], ◌∷◌, ◌++◌}
use Prim.Native.Nat.{ℕ, zero, suc, ◌+◌}
use native.Mathlib.Omega.{arith}
use lib.ListN.{length, get_or, set}
use Rattle.views.proofs.Truth.{cases}
use Rattle.rules.specs.Sets.{all_hold, all, those}
use Rattle.rules.specs.Generators.{one_if}
use Rattle.rules.specs.WellFormed.{all_from, distinct}

abbrev pub AllTrue : List Bool → Type 0
AllTrue [] = Unit {0}
AllTrue (b ∷ bs) = (b ≡ true) × AllTrue bs

pub hold_facts : (bs : List Bool) → all_hold bs ≡ true → AllTrue bs
unfolding all_hold
hold_facts [] e = tt
hold_facts (b ∷ bs) e = let h = (and-eq-true_iff b (all_hold bs)).0 e in (h.0, hold_facts bs h.1)

pub hold_tests : (bs : List Bool) → AllTrue bs → all_hold bs ≡ true
unfolding all_hold
hold_tests [] h = refl
hold_tests (b ∷ bs) h = (and-eq-true_iff b (all_hold bs)).1 (h.0, hold_tests bs h.1)

-- ---- a test over a list: nothing to test, and the first and the rest

module _ {A : Type 0} (f : ℕ → A → Bool) where
  from_parts : (n : ℕ) (x : A) (xs : List A) → all_from n f (x ∷ xs) ≡ true → (f n x ≡ true) × (all_from (suc n) f xs ≡ true)
  unfolding all_from
  from_parts n x xs e = (and-eq-true_iff (f n x) (all_from (suc n) f xs)).0 e

  from_more : (n : ℕ) (x : A) (xs : List A) → f n x ≡ true → all_from (suc n) f xs ≡ true → all_from n f (x ∷ xs) ≡ true
  unfolding all_from
  from_more n x xs p h = (and-eq-true_iff (f n x) (all_from (suc n) f xs)).1 (p, h)

  pub from-set : (n : ℕ) (l : List A) (i : ℕ) (x : A) → all_from n f l ≡ true → f (n + i) x ≡ true → all_from n f (set l i x) ≡ true
  from-set n [] i x h p = h
  from-set n (y ∷ ys) zero x h p =
      let e : n + 0 ≡ n = omega arith in
      from_more n x ys (rw e at p) (from_parts n y ys h).1
  from-set n (y ∷ ys) (suc i) x h p =
      let e : n + suc i ≡ suc n + i = omega arith in
      let k = from_parts n y ys h in
      from_more n y (set ys i x) k.0 (from-set (suc n) ys i x k.1 (rw e at p))

  pub from_at : (n : ℕ) (l : List A) (i : ℕ) (d : A) → all_from n f l ≡ true → f (n + i) d ≡ true → f (n + i) (get_or l i d) ≡ true
  from_at n [] i d h p = p
  from_at n (y ∷ ys) zero d h p =
      let e : n + 0 ≡ n = omega arith in
      rw e (from_parts n y ys h).0
  from_at n (y ∷ ys) (suc i) d h p =
      let e : n + suc i ≡ suc n + i = omega arith in
      rw e (from_at (suc n) ys i d (from_parts n y ys h).1 (rw e at p))

module _ {A : Type 0} (f : A → Bool) where
  pub all_none : all f [] ≡ true
  unfolding all
  all_none = refl

  pub all_parts : (x : A) (xs : List A) → all f (x ∷ xs) ≡ true → (f x ≡ true) × (all f xs ≡ true)
  unfolding all
  all_parts x xs e = (and-eq-true_iff (f x) (all f xs)).0 e

  pub all_more : (x : A) (xs : List A) → f x ≡ true → all f xs ≡ true → all f (x ∷ xs) ≡ true
  unfolding all
  all_more x xs p h = (and-eq-true_iff (f x) (all f xs)).1 (p, h)

  pub all_set : (l : List A) (i : ℕ) (x : A) → all f l ≡ true → f x ≡ true → all f (set l i x) ≡ true
  all_set [] i x h p = h
  all_set (y ∷ ys) zero x h p = all_more x ys p (all_parts y ys h).1
  all_set (y ∷ ys) (suc i) x h p = let k = all_parts y ys h in all_more y (set ys i x) k.0 (all_set ys i x k.1 p)

  pub all_at : (l : List A) (i : ℕ) (d : A) → all f l ≡ true → f d ≡ true → f (get_or l i d) ≡ true
  all_at [] i d h p = p
  all_at (y ∷ ys) zero d h p = (all_parts y ys h).0
  all_at (y ∷ ys) (suc i) d h p = all_at ys i d (all_parts y ys h).1 p

  pub all_append : (a b : List A) → all f a ≡ true → all f b ≡ true → all f (a ++ b) ≡ true
  all_append [] b h k = k
  all_append (x ∷ a) b h k = let e = all_parts x a h in all_more x (a ++ b) e.0 (all_append a b e.1 k)

  pub all-those : (g : A → Bool) (l : List A) → all f l ≡ true → all f (those g l) ≡ true
  unfolding those
  all-those g [] h = h
  all-those g (y ∷ ys) h =
      let k = all_parts y ys h in
      let rest : all f (those g ys) ≡ true = all-those g ys k.1 in
      cases (λ (l : List A). all f l ≡ true) (g y) (λ _. all_more y (those g ys) k.0 rest) (λ _. rest)

-- ---- none stands twice

module _ {A : Type 0} (differ : A → A → Bool) where
  pub distinct_parts : (x : A) (xs : List A) → distinct differ (x ∷ xs) ≡ true → (all (differ x) xs ≡ true) × (distinct differ xs ≡ true)
  unfolding distinct
  distinct_parts x xs e = (and-eq-true_iff (all (differ x) xs) (distinct differ xs)).0 e

  pub distinct_more : (x : A) (xs : List A) → all (differ x) xs ≡ true → distinct differ xs ≡ true → distinct differ (x ∷ xs) ≡ true
  unfolding distinct
  distinct_more x xs p h = (and-eq-true_iff (all (differ x) xs) (distinct differ xs)).1 (p, h)

  pub distinct-those : (g : A → Bool) (l : List A) → distinct differ l ≡ true → distinct differ (those g l) ≡ true
  unfolding those
  distinct-those g [] d = d
  distinct-those g (x ∷ xs) d =
      let k = distinct_parts x xs d in
      let rest : distinct differ (those g xs) ≡ true = distinct-those g xs k.1 in
      cases (λ (l : List A). distinct differ l ≡ true) (g x) (λ _. distinct_more x (those g xs) (all-those (differ x) g xs k.0) rest) (λ _. rest)

-- ---- one put back: in the place of the first that is the same, or at the end

module _ {A : Type 0} (same : A → A → Bool) (put : A → List A → List A)
    (put-none : (x : A) → put x [] ≡ x ∷ []) (put_some_lem : (x y : A) (ys : List A) → put x (y ∷ ys) ≡ (if same y x then x ∷ ys else y ∷ put x ys)) where
  pub all-put : (f : A → Bool) (x : A) → f x ≡ true → (ys : List A) → all f ys ≡ true → all f (put x ys) ≡ true
  all-put f x p [] a = rw (put-none x) (all_more f x [] p a)
  all-put f x p (y ∷ ys) a =
      let k = all_parts f y ys a in
      let r : all f (put x ys) ≡ true = all-put f x p ys k.1 in
      rw (put_some_lem x y ys) (cases (λ (l : List A). all f l ≡ true) (same y x) (λ _. all_more f x ys p k.1) (λ _. all_more f y (put x ys) k.0 r))

  pub distinct-put : (differ : A → A → Bool) → ((x y : A) → same y x ≡ false → differ y x ≡ true)
      → ((x y : A) (us : List A) → same y x ≡ true → all (differ y) us ≡ true → all (differ x) us ≡ true)
      → (x : A) (ys : List A) → distinct differ ys ≡ true → distinct differ (put x ys) ≡ true
  distinct-put differ apart alike x [] d = rw (put-none x) (distinct_more differ x [] (all_none (differ x)) d)
  distinct-put differ apart alike x (y ∷ ys) d =
      let k = distinct_parts differ y ys d in
      let r : distinct differ (put x ys) ≡ true = distinct-put differ apart alike x ys k.1 in
      rw (put_some_lem x y ys)
      (cases (λ (l : List A). distinct differ l ≡ true) (same y x) (λ e. distinct_more differ x ys (alike x y ys e k.0) k.1)
      (λ e. distinct_more differ y (put x ys) (all-put (differ y) x (apart x y e) ys k.0) r))

  -- longer by one exactly where none was the same
  pub put-length : (x : A) (ys : List A) → length (put x ys) ≡ length ys + one_if (all (λ y. not (same y x)) ys)
  unfolding all
  put-length x [] = rw (put-none x) refl
  put-length x (y ∷ ys) = rw (put_some_lem x y ys) (go (same y x) (put-length x ys))
    where
      go : (b : Bool) → length (put x ys) ≡ length ys + one_if (all (λ y. not (same y x)) ys)
          → length (if b then x ∷ ys else y ∷ put x ys) ≡ length (y ∷ ys) + one_if (not b && all (λ y. not (same y x)) ys)
      go true e = omega arith
      go false e = omega arith

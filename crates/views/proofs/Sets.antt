-- The laws of finite sets kept as numbers (Digits): inclusion, union, intersection, size, and the members of a view. For all proofs of the project.
-- The laws speak of facts (`Within`, `Inside`); the last parts tie them to the tests (`within_of`, `inside_of`, `clash_of`, `member_of`). Assumes nothing.
use mathlib.Core.Path.{◌≡◌, refl, sym, ap, ◌∙◌}
use mathlib.Core.Logic.{◌≢◌, ◌⊎◌, inl, inr, ⊎_elim}
use mathlib.Core.Bool.{Bool, true, false, not, ◌&&◌, and-eq-true_iff}
use Prim.Native.Nat.{ℕ, zero, suc, ◌+◌, ◌-◌, ◌/◌, ◌%◌, ◌^◌, ◌≤◌, ◌<◌}
use native.Mathlib.Omega.{arith}
use native.Mathlib.Decide.{ℕ_discrete}
use native.Mathlib.Nat.{eq-or-lt_of_le}
use lib.Arith.{bin_ind}
use lib.Dec.{eqb}
use lib.Bits.{bit_and, bit_or, and_step, and_comm, and_self, and_le_l, and_le_r, and_zero_l}
use lib.Count.{ones, ones_step}
use borrow.Author.Tests.{eqb-true, eqb-false, eq-eqb, ne_eqb, not-true}
use Rattle.views.specs.View.{bit_of, members_of, member_of, within_of, inside_of, clash_of}
use Rattle.views.proofs.Truth.{decided, never_true, contrary}
use Rattle.views.proofs.Digits.{digit, digit_and, digit_or, and_half, and_low, or_half, or_low, ext, bit_fact, clear_fact, bit_below, bit_none, bit_one}

-- ---- inclusion, as a program tests it: `a & b == a`. A record, so that nothing unfolds it and its two sets are implicit in a lemma

pub record Within (a b : ℕ) : Type 0 where
  pub meets : bit_and a b ≡ a

within_digit : {a b : ℕ} → Within a b → (i : ℕ) → digit i a ≤ digit i b
within_digit {a} {b} h i = omega (arith, digit_and i a b, ap (digit i) h.meets)

digit_within : {a b : ℕ} → ((i : ℕ) → digit i a ≤ digit i b) → Within a b
digit_within {a} {b} h = record { meets = ext (bit_and a b) a (λ i. omega (arith, digit_and i a b, h i)) }

pub within_refl : (a : ℕ) → Within a a
within_refl a = record { meets = and_self a }

pub within_trans : {a b c : ℕ} → Within a b → Within b c → Within a c
within_trans h k = digit_within (λ i. omega (arith, within_digit h i, within_digit k i))

pub within_antisym : {a b : ℕ} → Within a b → Within b a → a ≡ b
within_antisym {a} {b} h k = sym h.meets ∙ and_comm a b ∙ k.meets

pub within_le : {a b : ℕ} → Within a b → a ≤ b
within_le {a} {b} h = omega (arith, and_le_r a b, h.meets)

pub within-empty : (a : ℕ) → Within 0 a
within-empty a = record { meets = and_zero_l a }

-- the union is the least set that holds both, and the intersection is within the second
pub within_or_left : (a b : ℕ) → Within a (bit_or a b)
within_or_left a b = digit_within (λ i. omega (arith, digit_or i a b))

pub within_or_right : (a b : ℕ) → Within b (bit_or a b)
within_or_right a b = digit_within (λ i. omega (arith, digit_or i a b))

pub or_within : {a b c : ℕ} → Within a c → Within b c → Within (bit_or a b) c
or_within {a} {b} h k = digit_within (λ i. omega (arith, digit_or i a b, within_digit h i, within_digit k i))

pub and_within_right : (a b : ℕ) → Within (bit_and a b) b
and_within_right a b = digit_within (λ i. omega (arith, digit_and i a b))

-- ---- sizes

pub ones_or_and : (a b : ℕ) → ones (bit_or a b) + ones (bit_and a b) ≡ ones a + ones b
unfolding ones
ones_or_and =
    bin_ind (λ (n : ℕ). (b : ℕ) → ones (bit_or n b) + ones (bit_and n b) ≡ ones n + ones b) (λ b. omega arith)
    (λ n ih b. omega (
      arith,
      ih (b / 2),
      ones_step n,
      ones_step b,
      simp (or_half, or_low) at (ones_step (bit_or n b)),
      simp (and_half, and_low) at (ones_step (bit_and n b)),
    ))

ones_none : (a : ℕ) → ones a ≡ 0 → a ≡ 0
ones_none = bin_ind (λ (n : ℕ). ones n ≡ 0 → n ≡ 0) (λ e. refl) (λ n ih e. omega (arith, ih (omega (arith, ones_step n)), ones_step n))

-- a set inside another is that set, or has fewer members
smaller : (a b : ℕ) → bit_and a b ≡ a → (a ≡ b) ⊎ (ones a < ones b)
unfolding ones
smaller =
    bin_ind (λ (n : ℕ). (b : ℕ) → bit_and n b ≡ n → (n ≡ b) ⊎ (ones n < ones b)) (λ b h. empty b (ones b) refl)
    (λ n ih b h. step n b h (ih (b / 2) (omega (arith, and_step n b))) (eq-or-lt_of_le {n = n % 2} {m = b % 2} (omega (arith, and_step n b))))
  where
    empty : (b k : ℕ) → ones b ≡ k → (0 ≡ b) ⊎ (ones 0 < ones b)
    empty b zero e = inl (sym (ones_none b e))
    empty b (suc k) e = inr (omega arith)

    step : (n b : ℕ) → bit_and n b ≡ n → (n / 2 ≡ b / 2) ⊎ (ones (n / 2) < ones (b / 2)) → (n % 2 ≡ b % 2) ⊎ (n % 2 < b % 2)
        → (n ≡ b) ⊎ (ones n < ones b)
    step n b h (inl e) (inl d) = inl (omega arith)
    step n b h (inl e) (inr d) = inr (omega (arith, ones_step n, ones_step b, ap ones e))
    step n b h (inr l) (inl d) = inr (omega (arith, ones_step n, ones_step b))
    step n b h (inr l) (inr d) = inr (omega (arith, ones_step n, ones_step b))

pub ones-within : {a b : ℕ} → Within a b → ones a ≤ ones b
ones-within {a} {b} h = ⊎_elim (λ e. omega (arith, ap ones e)) (λ l. omega arith) (smaller a b h.meets)

-- ---- strictly inside: a strict order, and the size grows along it

pub record Inside (a b : ℕ) : Type 0 where
  pub within : Within a b
  pub other : a ≢ b

pub inside_grows : {a b : ℕ} → Inside a b → ones a < ones b
inside_grows {a} {b} h = ⊎_elim (λ e. absurd (h.other e)) (λ l. l) (smaller a b h.within.meets)

pub inside_lt : {a b : ℕ} → Inside a b → a < b
inside_lt h = omega (arith, within_le h.within, h.other)

pub inside_irrefl : {a : ℕ} → Inside a a → ⊥
inside_irrefl h = h.other refl

pub inside_not_within : {a b : ℕ} → Inside a b → Within b a → ⊥
inside_not_within h k = h.other (within_antisym h.within k)

pub inside_asym : {a b : ℕ} → Inside a b → Inside b a → ⊥
inside_asym h k = inside_not_within h k.within

pub inside_within : {a b c : ℕ} → Inside a b → Within b c → Inside a c
inside_within h k = record { within = within_trans h.within k; other = λ e. omega (arith, inside_lt h, within_le k) }

pub within_inside : {a b c : ℕ} → Within a b → Inside b c → Inside a c
within_inside h k = record { within = within_trans h k.within; other = λ e. omega (arith, inside_lt k, within_le h) }

pub inside_trans : {a b c : ℕ} → Inside a b → Inside b c → Inside a c
inside_trans h k = inside_within h k.within

pub within_cases : {a b : ℕ} → Within a b → (a ≡ b) ⊎ Inside a b
within_cases {a} {b} h = go (ℕ_discrete a b)
  where
    go : Dec (a ≡ b) → (a ≡ b) ⊎ Inside a b
    go (yes e) = inl e
    go (no e) = inr (record { within = h; other = e })

pub inside_empty : {a : ℕ} → a ≢ 0 → Inside 0 a
inside_empty {a} h = record { within = within-empty a; other = λ e. h (sym e) }

-- a set and the union with what it does not include
pub inside_or : (a b : ℕ) → (Within b a → ⊥) → Inside a (bit_or a b)
inside_or a b h = record { within = within_or_left a b; other = λ e. h (rw (← e) at (within_or_right a b)) }

-- ---- the tests of inclusion

bit_within : (a b : ℕ) → ((s : ℕ) → bit_of a s ≡ true → bit_of b s ≡ true) → Within a b
bit_within a b h =
    digit_within (λ i. ⊎_elim (λ e. omega (arith, bit_fact a i e, bit_fact b i (h i e))) (λ e. omega (arith, clear_fact a i e)) (decided (bit_of a i)))

pub one_within : (m s : ℕ) → bit_of m s ≡ true → Within (2 ^ s) m
one_within m s e = bit_within (2 ^ s) m (λ i h. rw (eqb-true i s (sym (bit_one i s) ∙ h)) e)

pub within_fact : (a b : ℕ) → within_of a b ≡ true → Within a b
within_fact a b e = record { meets = eqb-true _ a e }

pub within_test : {a b : ℕ} → Within a b → within_of a b ≡ true
within_test {a} {b} h = eq-eqb _ a h.meets

pub inside_fact : (a b : ℕ) → inside_of a b ≡ true → Inside a b
unfolding inside_of
inside_fact a b e =
    let h = (and-eq-true_iff (within_of a b) (not (eqb a b))).0 e in
    record { within = within_fact a b h.0; other = eqb-false a b (not-true (eqb a b) h.1) }

pub inside_test : {a b : ℕ} → Inside a b → inside_of a b ≡ true
unfolding inside_of
inside_test {a} {b} i = rw (within_test i.within, ne_eqb a b i.other)

pub inside_self : (a : ℕ) → inside_of a a ≡ false
inside_self a = never_true (inside_of a a) (λ e. inside_irrefl (inside_fact a a e))

-- two views that do not clash are nested, and two nested ones do not clash
pub apart_fact : (a b : ℕ) → clash_of a b ≡ false → Within a b ⊎ Within b a
unfolding clash_of
apart_fact a b e = go (eqb a b) (inside_of a b) (inside_of b a) refl refl refl e
  where
    go : (x y z : Bool) → eqb a b ≡ x → inside_of a b ≡ y → inside_of b a ≡ z → not x && (not y && not z) ≡ false → Within a b ⊎ Within b a
    go true y z ex ey ez e = inl (rw (eqb-true a b ex) (within_refl b))
    go false true z ex ey ez e = inl (inside_fact a b ey).within
    go false false true ex ey ez e = inr (inside_fact b a ez).within
    go false false false ex ey ez e = absurd (contrary refl e)

pub apart_test : {a b : ℕ} → Within a b ⊎ Within b a → clash_of a b ≡ false
unfolding clash_of
apart_test {a} {b} h = never_true (clash_of a b) (λ e.
    let p = (and-eq-true_iff (not (eqb a b)) (not (inside_of a b) && not (inside_of b a))).0 e in
    let q = (and-eq-true_iff (not (inside_of a b)) (not (inside_of b a))).0 p.1 in
    let d = eqb-false a b (not-true _ p.0) in
    ⊎_elim (λ w. none_between w d (not-true _ q.0)) (λ w. none_between w (λ x. d (sym x)) (not-true _ q.1)) h)
  where
    none_between : {x y : ℕ} → Within x y → x ≢ y → inside_of x y ≡ false → ⊥
    none_between w d n = contrary (inside_test (record { within = w; other = d })) n

pub apart_sym : (a b : ℕ) → clash_of a b ≡ false → clash_of b a ≡ false
apart_sym a b e = apart_test (⊎_elim inr inl (apart_fact a b e))

-- the smaller number is then inside the greater
pub apart_inside : (a b : ℕ) → clash_of a b ≡ false → a < b → Inside a b
apart_inside a b e l =
    ⊎_elim (λ w. record { within = w; other = λ x. omega arith }) (λ w. absurd (omega (arith, within_le w))) (apart_fact a b e)

-- ---- the members of a view

pub members_lt : (v : ℕ) → members_of v < 256
members_lt v = omega (arith, and_le_l (v % 256) (255 - v / 256))

pub member_bit : (v s : ℕ) → member_of v s ≡ bit_of (members_of v) s
unfolding member_of
member_bit v s = refl

pub member_lt : (v s : ℕ) → member_of v s ≡ true → s < 8
unfolding member_of
member_lt v s e = bit_below 8 (members_of v) s (members_lt v) e

pub member_not_empty : (v s : ℕ) → member_of v s ≡ true → v ≢ 0
unfolding member_of
member_not_empty v s e z = contrary (rw z at e) (bit_none s)

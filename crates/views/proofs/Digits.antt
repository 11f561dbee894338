-- A number as a finite set of small numbers: `i` is in the set `a` where the binary digit `i` of `a` is set. What the operations do to the members,
-- that a set is its members, and the test `bit_of` of a member. The laws of inclusion and size are in Sets.
-- Each law goes digit by digit: `bin_ind` over the first set, the step equations of `lib.Bits`, and `omega`. Assumes nothing.
use mathlib.Core.Path.{◌≡◌, refl, sym, ap, ◌∙◌}
use mathlib.Core.Logic.{◌≢◌, ⊎_elim}
use mathlib.Core.Bool.{true, false, ◌&&◌, ◌||◌, and-eq-true_iff}
use Prim.Native.Nat.{ℕ, zero, suc, ◌+◌, ◌/◌, ◌%◌, ◌^◌, ◌<◌, min, max}
use native.Mathlib.Omega.{arith}
use native.Mathlib.Decide.{ℕ_discrete, dec_lt}
use native.Mathlib.Nat.{div-eq_of_lt, div_self, zero-div, mul_comm, div-div-eq-div-mul, pow-suc}
use lib.Arith.{bin_ind}
use lib.Dec.{eqb}
use lib.Bits.{bit_and, bit_or, and_step, or_step, and_shr, or_shr}
use lib.Pow.{pow_pos, pow_mono, shr-shr}
use borrow.Author.Tests.{eqb-true, eqb-false, eq-eqb, ne_eqb}
use Rattle.views.specs.View.{bit_of}
use Rattle.views.proofs.Truth.{never_true, never_false, same_truth, either_true, neither_true}

-- ---- a digit of an operation, and the rest

pub and_half : (a b : ℕ) → bit_and a b / 2 ≡ bit_and (a / 2) (b / 2)
and_half a b = omega (arith, and_step a b)

pub and_low : (a b : ℕ) → bit_and a b % 2 ≡ min (a % 2) (b % 2)
and_low a b = omega (arith, and_step a b)

pub or_half : (a b : ℕ) → bit_or a b / 2 ≡ bit_or (a / 2) (b / 2)
or_half a b = omega (arith, or_step a b)

pub or_low : (a b : ℕ) → bit_or a b % 2 ≡ max (a % 2) (b % 2)
or_low a b = omega (arith, or_step a b)

-- ---- the members of a set

-- the digit `i` of `a`: 1 where `i` is in the set, and 0 where it is not
unfoldable pub digit : ℕ → ℕ → ℕ
digit i a = a / 2 ^ i % 2

pub digit_lt : (i a : ℕ) → digit i a < 2
unfolding digit
digit_lt i a = omega arith

pub digit_zero : (i : ℕ) → digit i 0 ≡ 0
unfolding digit
digit_zero i = rw zero-div

digit_first : (a : ℕ) → digit 0 a ≡ a % 2
unfolding digit
digit_first a = omega arith

digit_suc : (i a : ℕ) → digit (suc i) a ≡ digit i (a / 2)
unfolding digit
digit_suc i a = rw (pow-suc, mul_comm, ← div-div-eq-div-mul)

pub digit_and : (i a b : ℕ) → digit i (bit_and a b) ≡ min (digit i a) (digit i b)
unfolding digit
digit_and i a b = rw and_shr (and_low (a / 2 ^ i) (b / 2 ^ i))

pub digit_or : (i a b : ℕ) → digit i (bit_or a b) ≡ max (digit i a) (digit i b)
unfolding digit
digit_or i a b = rw or_shr (or_low (a / 2 ^ i) (b / 2 ^ i))

-- a right shift by k takes k off the members; the digits past a number's length are 0
pub digit_shr : (i k a : ℕ) → digit i (a / 2 ^ k) ≡ digit (k + i) a
unfolding digit
digit_shr i k a = rw shr-shr

pub digit_past : (i a : ℕ) → a < 2 ^ i → digit i a ≡ 0
unfolding digit
digit_past i a h = rw div-eq_of_lt

-- the set of one member: `1 << j`
pub digit_same : (j : ℕ) → digit j (2 ^ j) ≡ 1
unfolding digit
digit_same j = rw (div_self, pow_pos j)

pub digit_other : (i j : ℕ) → i ≢ j → digit i (2 ^ j) ≡ 0
unfolding digit
digit_other zero zero d = absurd (d refl)
digit_other zero (suc j) d = rw digit_first (omega (arith, pow-suc 2 j))
digit_other (suc i) zero d = digit_suc i 1 ∙ digit_zero i
digit_other (suc i) (suc j) d =
    let e : 2 ^ suc j / 2 ≡ 2 ^ j = omega (arith, pow-suc 2 j) in
    digit_suc i (2 ^ suc j) ∙ rw e (digit_other i j (λ f. d (ap suc f)))

-- two sets are equal by their members
pub none : (a : ℕ) → ((i : ℕ) → digit i a ≡ 0) → a ≡ 0
none =
    bin_ind (λ (n : ℕ). ((i : ℕ) → digit i n ≡ 0) → n ≡ 0) (λ e. refl)
    (λ n ih e. omega (arith, ih (λ i. sym (digit_suc i n) ∙ e (suc i)), rw digit_first at (e 0)))

pub ext : (a b : ℕ) → ((i : ℕ) → digit i a ≡ digit i b) → a ≡ b
ext =
    bin_ind (λ (n : ℕ). (b : ℕ) → ((i : ℕ) → digit i n ≡ digit i b) → n ≡ b) (λ b e. sym (none b (λ i. sym (e i) ∙ digit_zero i)))
    (λ n ih b e. omega (arith, ih (b / 2) (λ i. sym (digit_suc i n) ∙ e (suc i) ∙ digit_suc i b), simp digit_first at (e 0)))

-- a set that is not empty has a member
pub member : (a : ℕ) → a ≢ 0 → (i : ℕ) × (digit i a ≡ 1)
member =
    bin_ind (λ (n : ℕ). n ≢ 0 → (i : ℕ) × (digit i n ≡ 1)) (λ h. absurd (h refl))
    (λ n ih h. low n ih h (n % 2) refl)
  where
    low : (n : ℕ) → (n / 2 ≢ 0 → (i : ℕ) × (digit i (n / 2) ≡ 1)) → n ≢ 0 → (d : ℕ) → n % 2 ≡ d → (i : ℕ) × (digit i n ≡ 1)
    low n ih h zero e = let m = ih (omega arith) in (suc m.0, digit_suc m.0 n ∙ m.1)
    low n ih h (suc d) e = (0, digit_first n ∙ omega arith)

-- ---- the test of a member

pub bit_fact : (m s : ℕ) → bit_of m s ≡ true → digit s m ≡ 1
unfolding digit
bit_fact m s e = eqb-true _ 1 e

pub bit_test : (m s : ℕ) → digit s m ≡ 1 → bit_of m s ≡ true
unfolding digit
bit_test m s e = eq-eqb _ 1 e

pub clear_fact : (m s : ℕ) → bit_of m s ≡ false → digit s m ≡ 0
unfolding digit
clear_fact m s e = omega (arith, eqb-false (m / 2 ^ s % 2) 1 e)

pub clear_test : (m s : ℕ) → digit s m ≡ 0 → bit_of m s ≡ false
clear_test m s e = never_true (bit_of m s) (λ f. omega (arith, bit_fact m s f))

pub bit_of-bit_and : (s a b : ℕ) → bit_of (bit_and a b) s ≡ (bit_of a s && bit_of b s)
bit_of-bit_and s a b =
    same_truth (bit_of (bit_and a b) s) (bit_of a s && bit_of b s)
    (λ e.
    let d : min (digit s a) (digit s b) ≡ 1 = sym (digit_and s a b) ∙ bit_fact (bit_and a b) s e in
    (and-eq-true_iff _ _).1 (bit_test a s (omega (arith, digit_lt s a)), bit_test b s (omega (arith, digit_lt s b))))
    (λ e.
    let h = (and-eq-true_iff (bit_of a s) (bit_of b s)).0 e in
    bit_test (bit_and a b) s (omega (arith, digit_and s a b, bit_fact a s h.0, bit_fact b s h.1)))

pub bit_of-bit_or : (s a b : ℕ) → bit_of (bit_or a b) s ≡ (bit_of a s || bit_of b s)
bit_of-bit_or s a b =
    same_truth (bit_of (bit_or a b) s) (bit_of a s || bit_of b s)
    (λ e. never_false _ (λ f.
    let n = neither_true (bit_of a s) (bit_of b s) f in
    omega (arith, digit_or s a b, bit_fact (bit_or a b) s e, clear_fact a s n.0, clear_fact b s n.1)))
    (λ e. ⊎_elim
    (λ f. bit_test (bit_or a b) s (omega (arith, digit_or s a b, bit_fact a s f, digit_lt s b)))
    (λ f. bit_test (bit_or a b) s (omega (arith, digit_or s a b, bit_fact b s f, digit_lt s a)))
    (either_true (bit_of a s) (bit_of b s) e))

pub bit_one : (i j : ℕ) → bit_of (2 ^ j) i ≡ eqb i j
bit_one i j = go (ℕ_discrete i j)
  where
    go : Dec (i ≡ j) → bit_of (2 ^ j) i ≡ eqb i j
    go (yes e) = rw (e, eq-eqb j j refl) (bit_test (2 ^ j) j (digit_same j))
    go (no e) = rw (ne_eqb i j e) (clear_test (2 ^ j) i (digit_other i j e))

pub bit_none : (s : ℕ) → bit_of 0 s ≡ false
bit_none s = clear_test 0 s (digit_zero s)

pub bit_below : (k m s : ℕ) → m < 2 ^ k → bit_of m s ≡ true → s < k
bit_below k m s h e = go (dec_lt s k)
  where
    go : Dec (s < k) → s < k
    go (yes l) = l
    go (no l) = absurd (omega (arith, bit_fact m s e, digit_past s m (omega (arith, pow_mono {i = k} {j = s} (omega arith)))))

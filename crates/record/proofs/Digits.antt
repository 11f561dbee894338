-- Laws of the rules' decimal digits and lines of numbers. Assumes nothing.
use mathlib.Core.Path.{◌≡◌, refl, ap}
use mathlib.Core.List.{List, [], ◌∷◌, ◌++◌}
use Prim.Native.Nat.{ℕ, zero, suc, ◌+◌, ◌*◌, ◌^◌, ◌/◌, ◌%◌, ◌≤◌, ◌<◌}
use native.Mathlib.Nat.{pow-suc}
use native.Mathlib.Numerals.{add-one}
use native.Mathlib.Omega.{arith}
use lib.ListN.{length, get_or, drop, drop_of_length-le}
use lib.Seq.{drop-cons}
use borrow.Author.Tests.{lt-ltb, le-ltb}
use Rattle.rules.specs.Runs.{digits, decimal, line}

-- a number of at most k + 1 digits has no more of them for a greater bound
enough : (k n : ℕ) → n < 10 ^ suc k → digits (suc (suc k)) n ≡ digits (suc k) n
unfolding digits
enough zero n h = rw (lt-ltb n 10 h)
enough (suc k) n h =
    let below : n < 10 ^ suc k * 10 = rw (pow-suc 10 (suc k)) at h in
    rw (enough k (n / 10) (omega arith))

pub decimal_one : (n : ℕ) → n < 10 → decimal n ≡ (48 + n) ∷ []
unfolding digits
decimal_one n h = rw (lt-ltb n 10 h)

pub decimal_more : (n : ℕ) → 10 ≤ n → n < 4294967296 → decimal n ≡ decimal (n / 10) ++ ((48 + n % 10) ∷ [])
unfolding digits
decimal_more n h small = rw (le-ltb n 10 h, enough 8 (n / 10) (omega arith))

-- ---- what of a line comes after its first number

unfoldable pub tail : List ℕ → List ℕ
tail [] = 10 ∷ []
tail (n ∷ ns) = 32 ∷ (decimal n ++ tail ns)

pub line-none : (ns : List ℕ) → length ns ≡ 0 → line ns ≡ 10 ∷ []
unfolding line
line-none [] h = refl
line-none (n ∷ ns) h = absurd (omega arith)

pub line_tail : (n : ℕ) (ns : List ℕ) → line (n ∷ ns) ≡ decimal n ++ tail ns
unfolding line tail
line_tail n [] = refl
line_tail n (m ∷ ns) = ap (λ (r : List ℕ). decimal n ++ (32 ∷ r)) (line_tail m ns)

pub tail_next : (ns : List ℕ) (i : ℕ) → i < length ns → tail (drop i ns) ≡ (32 ∷ []) ++ (decimal (get_or ns i 0) ++ tail (drop (i + 1) ns))
unfolding tail
tail_next ns i h = rw (drop-cons ns i 0 h, add-one i)

pub tail_end : (ns : List ℕ) (i : ℕ) → length ns ≤ i → tail (drop i ns) ≡ (10 ∷ []) ++ []
unfolding tail
tail_end ns i h = rw (drop_of_length-le ns h)

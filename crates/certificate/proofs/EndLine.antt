-- The `end` line of a record says its four numbers: from the bytes they are read back. Assumes nothing.
use Rattle.std.specs.Prelude.{if◌then◌else◌}
use mathlib.Core.Path.{◌≡◌, sym, ap, ◌∙◌}
use mathlib.Core.Logic.{◌⊎◌, inl, inr}
use mathlib.Core.Bool.{true, false}
use mathlib.Core.List.{List, [], ◌∷◌, ◌++◌, append_assoc}
use Prim.Native.Nat.{ℕ, zero, suc, ◌+◌, ◌-◌, ◌*◌, ◌/◌, ◌%◌, ◌<◌}
use native.Mathlib.Omega.{arith}
use lib.Dec.{ltb}
use lib.ListN.{drop}
use borrow.Author.Tests.{ltb-true, ltb-false, le-ltb, lt-ltb}
use Rattle.views.proofs.Truth.{decided}
use Rattle.rules.specs.Runs.{decimal, line, end_of}
use Rattle.record.proofs.Digits.{decimal_one, decimal_more}

-- a number read on from n, up to the first byte that is no digit, and what comes after that byte
unfoldable read : ℕ → List ℕ → ℕ × List ℕ
read n [] = (n, [])
read n (x ∷ l) = if ltb x 48 then (n, l) else read (n * 10 + (x - 48)) l

read_digit : (n d : ℕ) (l : List ℕ) → read n ((48 + d) ∷ l) ≡ read (n * 10 + d) l
unfolding read
read_digit n d l =
    let digit : 48 + d - 48 ≡ d = omega arith in
    rw (le-ltb (48 + d) 48 (omega arith), digit)

read_decimal : (k n : ℕ) → n < k → n < 4294967296 → (l : List ℕ) → read 0 (decimal n ++ l) ≡ read n l
read_decimal zero n h small l = absurd (omega arith)
read_decimal (suc k) n h small l = go (decided (ltb n 10)) (λ m p q r. read_decimal k m p q r)
  where
    go : (ltb n 10 ≡ true) ⊎ (ltb n 10 ≡ false) → ((m : ℕ) → m < k → m < 4294967296 → (r : List ℕ) → read 0 (decimal m ++ r) ≡ read m r)
        → read 0 (decimal n ++ l) ≡ read n l
    go (inl e) ih =
        let whole : 0 * 10 + n ≡ n = omega arith in
        ap (λ (d : List ℕ). read 0 (d ++ l)) (decimal_one n (ltb-true n 10 e)) ∙ read_digit 0 n l ∙ ap (λ (m : ℕ). read m l) whole
    go (inr e) ih =
        let whole : n / 10 * 10 + n % 10 ≡ n = omega arith in
        ap (λ (d : List ℕ). read 0 (d ++ l)) (decimal_more n (ltb-false n 10 e) small)
        ∙ ap (read 0) (append_assoc (decimal (n / 10)) ((48 + n % 10) ∷ []) l)
        ∙ ih (n / 10) (omega (arith, ltb-false n 10 e)) (omega arith) ((48 + n % 10) ∷ l)
        ∙ read_digit (n / 10) (n % 10) l
        ∙ ap (λ (m : ℕ). read m l) whole

-- x is a blank or a newline; t is what stands after the line
number_read : (n x : ℕ) (l t : List ℕ) → n < 4294967296 → x < 48 → read 0 ((decimal n ++ (x ∷ l)) ++ t) ≡ (n, l ++ t)
unfolding read
number_read n x l t small h =
    ap (read 0) (append_assoc (decimal n) (x ∷ l) t) ∙ read_decimal (suc n) n (omega arith) small (x ∷ (l ++ t)) ∙ rw (lt-ltb x 48 h)

apart : (n m x : ℕ) (l r t u : List ℕ) → n < 4294967296 → m < 4294967296 → x < 48 → (decimal n ++ (x ∷ l)) ++ t ≡ (decimal m ++ (x ∷ r)) ++ u → (n ≡ m) × (l ++ t ≡ r ++ u)
apart n m x l r t u p q h e =
    let same = sym (number_read n x l t p h) ∙ ap (read 0) e ∙ number_read m x r u q h in
    (ap (λ (z : ℕ × List ℕ). z.0) same, ap (λ (z : ℕ × List ℕ). z.1) same)

-- four numbers of 32 bits
pub record Small (a b c d : ℕ) : Type 0 where
  pub first : a < 4294967296
  pub second : b < 4294967296
  pub third : c < 4294967296
  pub fourth : d < 4294967296

pub end_read : (a b c d a' b' c' d' : ℕ) (t u : List ℕ) → Small a b c d → Small a' b' c' d' → end_of a b c d ++ t ≡ end_of a' b' c' d' ++ u
    → (a ≡ a') × (b ≡ b') × (c ≡ c') × (d ≡ d')
unfolding line
end_read a b c d a' b' c' d' t u s s' e =
    let one = apart a a' 32 (line (b ∷ c ∷ d ∷ [])) (line (b' ∷ c' ∷ d' ∷ [])) t u s.first s'.first (omega arith) (ap (drop 4) e) in
    let two = apart b b' 32 (line (c ∷ d ∷ [])) (line (c' ∷ d' ∷ [])) t u s.second s'.second (omega arith) one.1 in
    let three = apart c c' 32 (line (d ∷ [])) (line (d' ∷ [])) t u s.third s'.third (omega arith) two.1 in
    let four = apart d d' 10 [] [] t u s.fourth s'.fourth (omega arith) three.1 in
    (one.0, two.0, three.0, four.0)

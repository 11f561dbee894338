-- A test of each number below n, and of a part of a buffer. Assumes nothing.
use Rattle.std.specs.Prelude.{ℕ, zero, suc, ◌+◌, Bool, true, ◌&&◌, List, eqb, get_or}

-- f 0, f 1, .. f (n - 1) all pass
unfoldable pub all : ℕ → (ℕ → Bool) → Bool
all zero f = true
all (suc n) f = all n f && f n

-- the n bytes from o on are zero, as those past the end are: "unused room is zero"
unfoldable pub all_zero : List ℕ → ℕ → ℕ → Bool
all_zero l o n = all n (λ k. eqb (get_or l (o + k) 0) 0)

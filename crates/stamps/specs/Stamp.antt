-- Stamps and the pairs of a stamp and its value. A choice by a test is `cond` (mathlib): `cond true x y` is x, `cond false x y` is y. Assumes nothing.
use Rattle.std.specs.Prelude.{ℕ, Bool, false, cond, ℤ, pos, negsuc, ltb, eqb}
use Rattle.stamps.specs.declared.Stamp.{Stamp}
use Rattle.stamps.specs.declared.Pair.{Pair}

-- the order by one number: minus one (`negsuc 0`) below, one above, and of equal numbers what is said otherwise
unfoldable pub sign_of : ℕ → ℕ → ℤ → ℤ
sign_of a b otherwise = cond (ltb a b) (negsuc 0) (cond (ltb b a) (pos 1) otherwise)

-- "A stamp is (count 0..65,535, desk 0..3), ordered by count, then desk. Comparing two stamps answers minus one, zero or one."
unfoldable pub compared_of : Stamp → Stamp → ℤ
compared_of a b = sign_of a.count b.count (sign_of a.desk b.desk (pos 0))

-- an answer is the number n
abbrev pub equals : ℤ → ℕ → Bool
equals (pos m) n = eqb m n
equals (negsuc m) n = false

-- the stamp a is greater than b, as in "Put stores if its stamp is greater"
unfoldable pub greater_of : Stamp → Stamp → Bool
greater_of a b = equals (compared_of a b) 1

-- they are the same stamp, as in "if all stamps agreed"
unfoldable pub same_of : Stamp → Stamp → Bool
same_of a b = equals (compared_of a b) 0

-- "Wherever the greatest stamp is kept, of equal stamps the pair already held stays."
unfoldable pub greatest_of : Pair → Pair → Pair
greatest_of held new = cond (greater_of new.stamp held.stamp) new held

-- "A value is an unsigned 32-bit number."
abbrev pub Value : Type 0
Value = ℕ

-- "Fresh record: stamp (0,0), value 0."
abbrev pub no_value : Value
no_value = 0

abbrev pub fresh_pair : Pair
fresh_pair = record { stamp = record { count = 0; desk = 0 }; value = no_value }

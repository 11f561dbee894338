-- Two values differ where some number that can be found in both does: the one law by which wrong programs are refuted. Assumes nothing.
use Rattle.std.specs.Prelude.{if◌then◌else◌}
use mathlib.Core.Path.{◌≡◌, ap, subst}
use mathlib.Core.Bool.{Bool, not}
use mathlib.Core.List.{List}
use Prim.Native.Nat.{ℕ}
use lib.Dec.{T, T_not, eqb, eqb_refl}
use lib.ListN.{get_or}

-- x and y cannot be equal: the number that f finds in them is not the same, which is computed
pub differ : {A : Type 0} {x y : A} (f : A → ℕ) → x ≡ y → T (not (eqb (f x) (f y))) → ⊥
differ {x = x} {y = y} f e t = T_not (eqb (f x) (f y)) t (subst (λ (n : ℕ). T (eqb (f x) n)) (ap f e) (eqb_refl (f x)))

-- ---- the numbers found: of a number itself, of a test, of a list one entry

abbrev pub itself : ℕ → ℕ
itself n = n

abbrev pub truth : Bool → ℕ
truth b = if b then 1 else 0

abbrev pub entry : ℕ → List ℕ → ℕ
entry i l = get_or l i 0

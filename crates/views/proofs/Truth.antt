-- Reasoning by tests, for all the laws of this crate and of those above it: by the two values of a test, and by the parts of a joined one.
-- `and-eq-true_iff` of mathlib.Core.Bool says what a true `&&` is. Assumes nothing.
use Rattle.std.specs.Prelude.{if◌then◌else◌}
use mathlib.Core.Path.{◌≡◌, refl, sym, ◌∙◌}
use mathlib.Core.Logic.{◌⊎◌, inl, inr}
use mathlib.Core.Bool.{Bool, true, false, ◌||◌, false≢true}

pub decided : (b : Bool) → (b ≡ true) ⊎ (b ≡ false)
decided true = inl refl
decided false = inr refl

pub contrary : {b : Bool} → b ≡ true → b ≡ false → ⊥
contrary e f = false≢true (sym f ∙ e)

pub never_true : (b : Bool) → (b ≡ true → ⊥) → b ≡ false
never_true true h = absurd (h refl)
never_true false h = refl

pub never_false : (b : Bool) → (b ≡ false → ⊥) → b ≡ true
never_false true h = refl
never_false false h = absurd (h refl)

-- two tests that pass together are equal
pub same_truth : (a b : Bool) → (a ≡ true → b ≡ true) → (b ≡ true → a ≡ true) → a ≡ b
same_truth true b f g = sym (f refl)
same_truth false true f g = g refl
same_truth false false f g = refl

pub either_true : (a b : Bool) → a || b ≡ true → (a ≡ true) ⊎ (b ≡ true)
either_true true b e = inl refl
either_true false b e = inr e

pub true_left : {a : Bool} (b : Bool) → a ≡ true → a || b ≡ true
true_left b e = rw e

pub true_right : (a : Bool) {b : Bool} → b ≡ true → a || b ≡ true
true_right true e = refl
true_right false e = e

pub neither_true : (a b : Bool) → a || b ≡ false → (a ≡ false) × (b ≡ false)
neither_true true b e = absurd (false≢true (sym e))
neither_true false b e = (refl, e)

-- what holds of both branches, each where its branch is taken, holds of the choice
module _ {A : Type 0} (P : A → Type 0) where
  pub cases : (b : Bool) {x y : A} → (b ≡ true → P x) → (b ≡ false → P y) → P (if b then x else y)
  cases true f g = f refl
  cases false f g = g refl

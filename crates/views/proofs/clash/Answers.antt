-- `views::clash` meets its contract: of equal views each includes the other, and of others inclusion is strict. Assumes nothing.
use Rattle.std.proofs.Common.{◌≡◌, ℕ, Bool, true, false, not, ◌&&◌, refl, sym, subst}
use borrow.Author.Tests.{eqb-true, eqb-false, ne_eqb}
use mathlib.Core.Bool.{and-true}
use lib.Dec.{eqb}
use Rattle.views.specs.View.{within_of, inside_of, clash_of}
use Rattle.views.proofs.Sets.{Within, within_test, within_refl}
use Rattle.views.proofs.clash.Goals as goal

neither : (a b : ℕ) → clash_of a b ≡ (not (within_of a b) && not (within_of b a))
unfolding clash_of inside_of
neither a b = go (eqb a b) refl
  where
    go : (t : Bool) → eqb a b ≡ t → clash_of a b ≡ (not (within_of a b) && not (within_of b a))
    go true e =
        let includes : within_of a b ≡ true = within_test (subst (λ (x : ℕ). Within a x) (eqb-true a b e) (within_refl a)) in
        rw (e, includes)
    go false e =
        let other : eqb b a ≡ false = ne_eqb b a (λ f. eqb-false a b e (sym f)) in
        rw (e, other) (simp and-true)

pub returns-then-not-within : goal.returns-then-not-within
returns-then-not-within c = rw (neither, ← c.within.ensures, c.if-not-within.true, ← c.within-then-not-within.ensures)

pub returns-else-not-within : goal.returns-else-not-within
returns-else-not-within c = rw (neither, ← c.within.ensures, c.if-not-within.false)

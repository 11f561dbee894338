-- `views::above` meets its contract. The invariant: the views not yet read answer for the whole. Assumes nothing.
use Rattle.std.proofs.Common.{◌≡◌, List, ◌∷◌, ℕ, ◌+◌, ◌<◌, length, get_or, drop, arith, add-one, drop-cons}
use native.Mathlib.Omega.{arith}
use borrow.Author.Tests.{lt-ltb}
use lib.ListN.{drop_of_length-le}
use Rattle.views.specs.Chain.{above_of}
use Rattle.views.proofs.above.Goals as goal

-- what is left from place i on begins with what stands there
onward : (l : List ℕ) (i : ℕ) → i < length l → drop i l ≡ get_or l i 0 ∷ drop (i + 1) l
onward l i h = rw (add-one, ← drop-cons l i 0)

pub returns-then-not-inside : goal.returns-then-not-inside
unfolding above_of
returns-then-not-inside c = rw (onward _ _ c.loop-w-test.true, ← c.inside.ensures, c.if-not-inside.true) at c.loop-w.invariant

pub loop-w-preserved : goal.loop-w-preserved
unfolding above_of
loop-w-preserved c =
    let small : get_or c.as_slice-w-items.result.now c.loop-w.w-index 0 < 65536 = omega (arith, c.type_inv.w-items c.loop-w.w-index) in
    rw (onward _ _ c.loop-w-test.true, ← c.inside.ensures, c.if-not-inside.false, lt-ltb _ _ small) at c.loop-w.invariant

pub returns : goal.returns
unfolding above_of
returns c = rw (drop_of_length-le _ {i = c.loop-w.w-index} c.loop-w-test.false) at c.loop-w.invariant

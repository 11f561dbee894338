-- `rows::put_number` meets its contract. The loop goes from the last byte to the first: what is left to write, written, gives the whole.
-- Assumes nothing.
use mathlib.Core.Path.{◌≡◌, refl, sym, ◌∙◌}
use mathlib.Core.List.{List, [], ◌∷◌}
use Prim.Native.Nat.{ℕ, zero, suc, ◌+◌, ◌-◌, ◌/◌, ◌%◌, ◌≤◌, ◌<◌}
use native.Mathlib.Omega.{arith}
use lib.ListN.{length, set}
use borrow.Author.Tests.{leb-true, leb-false}
use Rattle.rows.specs.Bytes.{placed, bytes_of}
use Rattle.rows.proofs.Laws.{placed_nil, placed_not, placed-before, set-placed}
use Rattle.rows.proofs.Numbers.{length-bytes_of}
use Rattle.rows.proofs.put_number.Goals as goal

left_less : (l : List ℕ) (o i y : ℕ) → 0 < i → o + i ≤ length l
    → placed (set l (o + (i - 1)) (y % 256)) o (bytes_of (i - 1) (y / 256)) ≡ placed l o (bytes_of i y)
unfolding bytes_of
left_less l o zero y some fit = absurd (omega arith)
left_less l o (suc j) y some fit =
    let less : suc j - 1 ≡ j = omega arith in
    let wide = length-bytes_of j (y / 256) in
    let before = placed-before l (bytes_of j (y / 256)) (y % 256 ∷ []) o (omega arith) in
    rw (less, set-placed l (o + j) (y % 256)) (rw wide at before)

left-none : (l t : List ℕ) (o i y : ℕ) → placed l o (bytes_of i y) ≡ t → i ≤ 0 → l ≡ t
unfolding bytes_of
left-none l t o zero y e none = sym (placed_nil l o) ∙ e
left-none l t o (suc j) y e none = absurd (omega arith)

pub returns-then-not-has_room : goal.returns-then-not-has_room
returns-then-not-has_room c =
    let long = length-bytes_of c.args.n c.args.x in
    let past = leb-false _ _ (sym c.has_room.ensures ∙ c.if-not-has_room.true) in
    sym (placed_not _ _ _ (omega arith))

pub loop-i-init : goal.loop-i-init
loop-i-init c = refl

pub loop-i-preserved : goal.loop-i-preserved
loop-i-preserved c =
    let fit = leb-true _ _ (sym c.has_room.ensures ∙ c.if-not-has_room.false) in
    left_less c.loop-i.s c.args.at c.loop-i.i c.loop-i.rest c.loop-i-test.true (omega (arith, c.loop-i.auto.s, c.loop-i.auto.i)) ∙ c.loop-i.invariant

pub returns : goal.returns
returns c = left-none _ _ _ _ _ c.loop-i.invariant c.loop-i-test.false

-- `rows::widths_fit` meets its contract. Assumes nothing.
use mathlib.Core.Path.{refl, sym, ◌∙◌}
use Prim.Native.Nat.{◌+◌}
use native.Mathlib.Omega.{arith}
use borrow.Author.Tests.{leb-false, lt-leb}
use Rattle.rows.specs.Bytes.{sum}
use Rattle.rows.proofs.Numbers.{ends_more, ends_inside, ends_all}
use Rattle.rows.proofs.widths_fit.Goals as goal

pub returns-then-not-has_room : goal.returns-then-not-has_room
returns-then-not-has_room c =
    let inside = ends_inside c.loop-width.invariant c.loop-width-test.true refl in
    let past = leb-false _ _ (sym c.has_room.ensures ∙ c.if-not-has_room.true) in
    sym (lt-leb (c.args.at + sum c.args.widths.now) c.args.len (omega arith))

pub loop-width-preserved : goal.loop-width-preserved
loop-width-preserved c = ends_more c.loop-width.invariant c.loop-width-test.true refl

pub returns : goal.returns
returns c = rw (ends_all c.loop-width.invariant c.loop-width-test.false)

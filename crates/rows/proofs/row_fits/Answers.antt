-- `rows::row_fits` meets its contract. Assumes nothing.
use mathlib.Core.Path.{sym, ◌∙◌}
use Prim.Native.Nat.{◌+◌}
use native.Mathlib.Omega.{arith}
use lib.ListN.{length}
use borrow.Author.Tests.{leb-false, lt-leb}
use Rattle.rows.specs.Bytes.{fields_bytes}
use Rattle.rows.proofs.Row.{ends_more, ends_inside, ends_all}
use Rattle.rows.proofs.row_fits.Goals as goal

pub returns-then-not-has_room : goal.returns-then-not-has_room
returns-then-not-has_room c =
    let inside = ends_inside c.loop-field.invariant _ c.loop-field-test.true c.width-width.ensures in
    let past = leb-false _ _ (sym c.has_room.ensures ∙ c.if-not-has_room.true) in
    sym (lt-leb (c.args.at + length (fields_bytes c.args.fields.now)) c.args.len (omega arith))

pub loop-field-preserved : goal.loop-field-preserved
loop-field-preserved c = ends_more c.loop-field.invariant _ c.loop-field-test.true c.width-width.ensures

pub returns : goal.returns
returns c = rw (ends_all c.loop-field.invariant c.loop-field-test.false)

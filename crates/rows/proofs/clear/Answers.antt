-- `rows::clear` meets its contract. Assumes nothing.
use mathlib.Core.Path.{sym, ◌∙◌}
use native.Mathlib.Omega.{arith}
use borrow.Author.Tests.{leb-true, leb-false}
use Rattle.rows.proofs.Laws.{placed_not}
use Rattle.rows.proofs.Tables.{length-zeros}
use Rattle.rows.proofs.clear.Goals as goal

pub wipe-requires : goal.wipe-requires
wipe-requires c = leb-true _ _ (sym c.has_room.ensures ∙ c.if-has_room.true)

pub returns-else-has_room : goal.returns-else-has_room
returns-else-has_room c =
    let long = length-zeros c.args.n in
    let past = leb-false _ _ (sym c.has_room.ensures ∙ c.if-has_room.false) in
    sym (placed_not _ _ _ (omega arith))

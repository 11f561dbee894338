-- `rows::put_bytes` meets its contract. Assumes nothing.
use mathlib.Core.Path.{sym, ◌∙◌}
use borrow.Author.Tests.{leb-true, leb-false}
use Rattle.rows.proofs.Laws.{placed_not}
use Rattle.rows.proofs.put_bytes.Goals as goal

pub lay-requires : goal.lay-requires
lay-requires c = leb-true _ _ (sym c.has_room.ensures ∙ c.if-has_room.true)

pub returns-else-has_room : goal.returns-else-has_room
returns-else-has_room c = sym (placed_not _ _ _ (leb-false _ _ (sym c.has_room.ensures ∙ c.if-has_room.false)))

-- `image::put_generator` meets its contract. Assumes nothing.
use mathlib.Core.Path.{sym, ◌∙◌}
use native.Mathlib.Omega.{arith}
use borrow.Author.Tests.{leb-true, leb-false}
use Rattle.rows.proofs.Laws.{placed_not}
use Rattle.state.specs.Meaning.{generator_of}
use Rattle.image.proofs.Widths.{length_generator}
use Rattle.image.proofs.put_generator.Goals as goal

pub returns-then-not-has_room : goal.returns-then-not-has_room
returns-then-not-has_room c =
    let past = leb-false _ _ (sym c.has_room.ensures ∙ c.if-not-has_room.true) in
    sym (placed_not _ _ _ (omega (arith, length_generator (generator_of c.args.g))))

pub put_generator_fields-requires : goal.put_generator_fields-requires
put_generator_fields-requires c = leb-true _ _ (sym c.has_room.ensures ∙ c.if-not-has_room.false)
